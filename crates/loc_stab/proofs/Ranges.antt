-- Edges that are written by a range of numbers, and corner after corner.
use Rattle.std.proofs.Common.{◌≡◌, ℕ, suc, ◌+◌, ◌-◌, ◌*◌, ◌^◌, ◌<◌, ◌≤◌, List, [], ◌++◌, length, refl, sym, ◌∙◌, ap, subst, arith, Result, Ok, Err, append-nil, append_assoc}
use Rattle.std.specs.List.{flat_map, range_with_len}
use Rattle.std.proofs.{lemmas.List.length-append, lemmas.List.Concat.flat_map-append}
use Rattle.std.proofs.{lemmas.List.FromFn.length-range_with_len, lemmas.Nat.pow-add, lemmas.Nat.mul-le}
use Rattle.loc_io.specs.{declared.sink.WriteFault.WriteFault, Streams.Stream, Streams.TakesAll}
use Rattle.loc_page.specs.Puts.{IsSteady, Passes, PutsText}
use Rattle.loc_page.proofs.Pages.{Goes, steady_none, steady_then, nothing_passes, passes-both, both, stop, put_same, whole_page, cut_page}
use Rattle.loc_spec_plane.specs.Tables.{Table, IsTable}
use Rattle.loc_edges.specs.Ending.{IsBeginning}
use Rattle.loc_spec_text.specs.Spans.{numbered}
use Rattle.loc_laws_stab.proofs.Beginning.{begin_list, begin_none, begin_more, begin_split, begin_few}

-- where nothing is left, all was put
pub goes_stop : (whole rest : List ℕ) (o m : Stream) (h k : List ℕ) (x : Unit {0}) → rest ≡ [] → Goes whole rest o m h k → PutsText {T = Unit {0}} {E = WriteFault} whole o m h k (Ok x)
goes_stop whole rest o m h k x none goes = goes m k (Ok x) (subst (λ l. PutsText {T = Unit {0}} {E = WriteFault} l m m k k (Ok x)) (sym none) (record { ok = nothing_passes refl refl; err = tt; cause = record { later = omega arith; failed = tt; steady = refl }; in_time = λ _. refl }))

-- what was put, with another answer
pub put_ok : {T U : Type 0} {text : List ℕ} {o m : Stream} {h k : List ℕ} {x : T} (y : U) → PutsText {T = T} {E = WriteFault} text o m h k (Ok x) → PutsText {T = U} {E = WriteFault} text o m h k (Ok y)
put_ok y p = record { ok = p.ok; err = tt; cause = record { later = p.cause.later; failed = tt; steady = p.cause.steady }; in_time = p.in_time }

-- one number more of a range
pub range_next : (edge past : ℕ) → edge < past → flat_map numbered (range_with_len edge (past - edge)) ≡ numbered edge ++ flat_map numbered (range_with_len (edge + 1) (past - (edge + 1)))
range_next edge past less = let one : past - edge ≡ suc (past - (edge + 1)) = omega (arith, less) in ap (λ n. flat_map numbered (range_with_len edge n)) one

pub range_over : (edge past : ℕ) → past ≤ edge → flat_map numbered (range_with_len edge (past - edge)) ≡ []
range_over edge past over = let none : past - edge ≡ 0 = omega (arith, over) in ap (λ n. flat_map numbered (range_with_len edge n)) none

module _ (t : Table) (from : ℕ) (o : Stream) (h : List ℕ) where
  -- the edges that begin before a corner are written
  pub record IsBegun (m : Stream) (k : List ℕ) (corner count : ℕ) : Type 0 where
    pub passes : Passes (flat_map numbered (begin_list t from corner)) o m h k
    pub steady : IsSteady o m
    pub counted : count ≡ length (begin_list t from corner)

  pub begun_start : IsBegun o h from 0
  begun_start = record {
    passes = subst (λ xs. Passes (flat_map numbered xs) o o h h) (sym (begin_none t from)) (nothing_passes refl refl);
    steady = steady_none o;
    counted = sym (ap length (begin_none t from));
  }

  module _ (m : Stream) (k : List ℕ) (corner count : ℕ) (s : IsBegun m k corner count) where
    put_begun : {T : Type 0} (x : T) → PutsText {T = T} {E = WriteFault} (flat_map numbered (begin_list t from corner)) o m h k (Ok x)
    put_begun x = record { ok = s.passes; err = tt; cause = record { later = (let e = s.steady.steady in omega (arith, e)); failed = tt; steady = s.steady.steady }; in_time = s.steady.in_time }

    -- at the end
    module _ (past : ℕ) (is : corner ≡ past) where
      pub begun_put : (n : ℕ) → PutsText {T = ℕ} {E = WriteFault} (flat_map numbered (begin_list t from past)) o m h k (Ok n)
      begun_put n = put_same (ap (λ c. flat_map numbered (begin_list t from c)) is) (put_begun n)

      pub begun_count : count ≡ length (begin_list t from past)
      begun_count = s.counted ∙ ap (λ c. length (begin_list t from c)) is

    module _ (ok : IsTable t) (low : from ≤ corner) (first last : ℕ) (b : IsBeginning t corner first last) where
      more : begin_list t from (corner + 1) ≡ begin_list t from corner ++ range_with_len first (last - first)
      more = begin_more t ok from corner first last low b.in_order b.within b.exact

      pub begun_room : count + (last - first) ≤ length t.ends
      begun_room =
          let few = begin_few t from (corner + 1) in
          let n = ap length more in
          let a = length-append (begin_list t from corner) (range_with_len first (last - first)) in
          let r = length-range_with_len first (last - first) in
          let c = s.counted in
          omega (arith, few, n, a, r, c)

      pub begun_more : {n : Stream} {i : List ℕ} {r : Result (Unit {0}) WriteFault} {x : Unit {0}} (after next : ℕ) → r ≡ Ok x → PutsText (flat_map numbered (range_with_len first (last - first))) m n k i r → after ≡ corner + 1 → next ≡ count + (last - first) → IsBegun n i after next
      begun_more {n = n} {i = i} after next done p to up =
          let put = subst (λ (q : Result (Unit {0}) WriteFault). PutsText (flat_map numbered (range_with_len first (last - first))) m n k i q) done p in
          let a = length-append (begin_list t from corner) (range_with_len first (last - first)) in
          let l = length-range_with_len first (last - first) in
          let c = s.counted in
          let e = ap length more in
          let here : length (begin_list t from after) ≡ length (begin_list t from (corner + 1)) = ap (λ j. length (begin_list t from j)) to in
          record {
            passes = subst (λ xs. Passes xs o n h i) (sym (ap (λ j. flat_map numbered (begin_list t from j)) to ∙ (ap (flat_map numbered) more ∙ flat_map-append numbered (begin_list t from corner) (range_with_len first (last - first))))) (passes-both s.passes put.ok);
            steady = steady_then s.steady (record { steady = put.cause.steady; in_time = put.in_time });
            counted = omega (arith, a, l, c, e, here, up);
          }

      pub begun_fail : {n : Stream} {i : List ℕ} {r : Result (Unit {0}) WriteFault} {second : Result ℕ WriteFault} {w d : WriteFault} (past : ℕ) → corner < past → r ≡ Err w → second ≡ Err d → PutsText (flat_map numbered (range_with_len first (last - first))) m n k i r → PutsText (flat_map numbered (begin_list t from past)) o n h i second
      begun_fail past less failed fails p =
          let split : begin_list t from past ≡ (begin_list t from corner ++ range_with_len first (last - first)) ++ begin_list t (corner + 1) past = begin_split t ok from (corner + 1) past (omega (arith, low)) (omega (arith, less)) ∙ ap (λ xs. xs ++ begin_list t (corner + 1) past) more in
          put_same (sym (ap (flat_map numbered) split ∙ (flat_map-append numbered (begin_list t from corner ++ range_with_len first (last - first)) (begin_list t (corner + 1) past) ∙ (ap (λ xs. xs ++ flat_map numbered (begin_list t (corner + 1) past)) (flat_map-append numbered (begin_list t from corner) (range_with_len first (last - first))) ∙ append_assoc (flat_map numbered (begin_list t from corner)) (flat_map numbered (range_with_len first (last - first))) (flat_map numbered (begin_list t (corner + 1) past))))))
          (both {T = ℕ} {U = ℕ} {E = WriteFault} {first = Ok 0} {x = 0} refl (put_begun 0) (stop (flat_map numbered (begin_list t (corner + 1) past)) failed fails p))

-- two searches among the corners and one down a version
pub three_searches : (i j l a b : ℕ) → 2 ^ i ≤ a → 2 ^ j ≤ b → 2 ^ l ≤ a → 2 ^ (l + (i + j)) ≤ a * (a * b)
three_searches i j l a b first second third =
    let p = pow-add 2 i j in
    let q = pow-add 2 l (i + j) in
    let m = mul-le (2 ^ i) (2 ^ j) a b first second in
    let n = mul-le (2 ^ l) (2 ^ (i + j)) a (a * b) third (omega (arith, p, m)) in
    omega (arith, q, n)

-- what was put, by the answer that came and with another one
pub put_as : {T U : Type 0} {text : List ℕ} {o m : Stream} {h k : List ℕ} {r : Result T WriteFault} {x : T} (y : U) → r ≡ Ok x → PutsText text o m h k r → PutsText {T = U} {E = WriteFault} text o m h k (Ok y)
put_as {T = T} {text = text} {o = o} {m = m} {h = h} {k = k} y done p = put_ok y (subst (λ (q : Result T WriteFault). PutsText text o m h k q) done p)

-- nothing was to be put
pub put_nothing : {T : Type 0} {text : List ℕ} (o : Stream) (h : List ℕ) (x : T) → text ≡ [] → PutsText {T = T} {E = WriteFault} text o o h h (Ok x)
put_nothing {T = T} o h x none = subst (λ l. PutsText {T = T} {E = WriteFault} l o o h h (Ok x)) (sym none) (record { ok = nothing_passes refl refl; err = tt; cause = record { later = omega arith; failed = tt; steady = refl }; in_time = λ _. refl })

-- a text of which a write failed, by the answer that is handed on
pub put_err : {T U : Type 0} {text : List ℕ} {o m : Stream} {h k : List ℕ} {r : Result T WriteFault} {s : Result U WriteFault} {e d : WriteFault} → r ≡ Err e → s ≡ Err d → PutsText text o m h k r → PutsText text o m h k s
put_err {text = text} failed fails p = put_same (append-nil text) (stop [] failed fails p)

-- two texts, the first of which was put
pub both_ok : {T U : Type 0} {o m n : Stream} {a b h i k : List ℕ} {x : T} {second : Result U WriteFault} → PutsText {T = T} {E = WriteFault} a o m h i (Ok x) → PutsText b m n i k second → PutsText (a ++ b) o n h k second
both_ok {T = T} {U = U} {x = x} p q = both {T = T} {U = U} {E = WriteFault} {first = Ok x} {x = x} refl p q

-- a text of which a write failed, with what was to come behind it
pub stop_err : {T U : Type 0} {o m : Stream} {a h i : List ℕ} {e d : WriteFault} {second : Result U WriteFault} (b : List ℕ) → second ≡ Err d → PutsText {T = T} {E = WriteFault} a o m h i (Err e) → PutsText (a ++ b) o m h i second
stop_err {T = T} {U = U} {e = e} b fails p = stop {T = T} {U = U} {E = WriteFault} {first = Err e} {e = e} b refl fails p

-- a text on an empty page that was flushed
pub take_whole : {T U V : Type 0} {text : List ℕ} {o m n : Stream} {h i k : List ℕ} {x : T} {u : U} (y : V) → h ≡ [] → PutsText {T = T} {E = WriteFault} text o m h i (Ok x) → PutsText {T = U} {E = WriteFault} [] m n i k (Ok u) → k ≡ [] → TakesAll {T = V} {E = WriteFault} text o n (Ok y)
take_whole {T = T} {U = U} {x = x} {u = u} y none p q empty =
    let w = whole_page {T = T} {U = U} {E = WriteFault} {first = Ok x} {x = x} {second = Ok u} refl none p q empty in
    record { ok = w.ok; err = tt; cause = record { later = w.cause.later; failed = tt; steady = w.cause.steady }; in_time = w.in_time }

-- a text on an empty page of which a write failed
pub take_cut : {V : Type 0} {text : List ℕ} {o m : Stream} {h i : List ℕ} {e d : WriteFault} {second : Result V WriteFault} → second ≡ Err d → h ≡ [] → PutsText {T = V} {E = WriteFault} text o m h i (Err e) → TakesAll text o m second
take_cut {V = V} {e = e} fails none p = cut_page {T = V} {E = WriteFault} {first = Err e} {e = e} refl fails none p

-- or the flush
pub take_unflushed : {T U V : Type 0} {text : List ℕ} {o m n : Stream} {h i k : List ℕ} {x : T} {e d : WriteFault} {second : Result V WriteFault} → second ≡ Err d → h ≡ [] → PutsText {T = T} {E = WriteFault} text o m h i (Ok x) → PutsText {T = U} {E = WriteFault} [] m n i k (Err e) → TakesAll text o n second
take_unflushed {V = V} {text = text} {e = e} fails none p q =
    take_cut fails none (put_same (append-nil text) (both_ok p (put_err {U = V} {r = Err e} {s = Err e} {e = e} {d = e} refl refl q)))

-- the steps of three searches and of a run
pub total_few : {x0 x1 x2 x3 a b : ℕ} (r : ℕ) → x0 ≤ x1 → 2 ^ (x1 - x0) ≤ a → (s : ℕ) × (x2 ≤ x1 + s + r + 1) × (2 ^ s ≤ b) → x2 ≤ x3 → 2 ^ (x3 - x2) ≤ a → (s : ℕ) × (x3 ≤ x0 + s + r + 1) × (2 ^ s ≤ a * (a * b))
total_few {x0 = x0} {x1 = x1} {x2 = x2} {x3 = x3} {a = a} {b = b} r first halving f third again =
    let took = f.1 in
    ((x3 - x2) + ((x1 - x0) + f.0), omega (arith, took, first, third), three_searches (x1 - x0) f.0 (x3 - x2) a b halving f.2 again)

-- the same before the third search
pub two_few : {x0 x1 x2 a b : ℕ} (r : ℕ) → 1 ≤ a → x0 ≤ x1 → 2 ^ (x1 - x0) ≤ a → (s : ℕ) × (x2 ≤ x1 + s + r + 1) × (2 ^ s ≤ b) → (s : ℕ) × (x2 ≤ x0 + s + r + 1) × (2 ^ s ≤ a * (a * b))
two_few {x0 = x0} {x1 = x1} {a = a} {b = b} r some first halving f =
    let took = f.1 in
    (0 + ((x1 - x0) + f.0), omega (arith, took, first), three_searches (x1 - x0) f.0 0 a b halving f.2 (omega (arith, some)))
