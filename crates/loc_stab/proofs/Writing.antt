-- The edges that were written so far, and those that are pending.
use Rattle.std.proofs.Common.{◌≡◌, ℕ, ◌+◌, ◌<◌, ◌≤◌, true, false, List, [], ◌∷◌, ◌++◌, length, refl, sym, ◌∙◌, ap, subst, arith, Result, Ok, Err, append_assoc, append-nil}
use Rattle.std.specs.Prelude.{◌==◌}
use Rattle.std.specs.List.{flat_map}
use Rattle.std.proofs.lemmas.Bool.{cond-true, cond-false, not_from_true, not_from_false, or_left, or_right, eq-eqb}
use Rattle.std.proofs.{lemmas.List.length-append, lemmas.List.Concat.flat_map-append}
use Rattle.loc_io.specs.{declared.sink.WriteFault.WriteFault, Streams.Stream}
use Rattle.loc_page.specs.Puts.{IsSteady, Passes, PutsText}
use Rattle.loc_page.proofs.Pages.{steady_none, steady_then, nothing_passes, passes-both, both, stop, put_same}
use Rattle.loc_pool.specs.{declared.Link.Link, Maps.Map, Rows.Row}
use Rattle.loc_spec_plane.specs.{Lists.is_in, Points.Point, Points.is_below, Tables.Table, Tables.edge}
use Rattle.loc_spec_text.specs.Spans.{numbered}
use Rattle.loc_laws_stab.specs.Fronts.{passing_front}
use Rattle.loc_laws_stab.proofs.RunOfRest.{reaches_up}
use Rattle.loc_stab.specs.Pending.{IsPending, IsRest}

module _ (t : Table) (high : Point) (version : ℕ) (rows : Map Row) (rest : List ℕ) (o : Stream) (h : List ℕ) (started : ℕ) where
  -- the run, up to the first edge that has the high point below it
  abbrev pub run : List ℕ
  run = passing_front (reaches_up t high) rest

  -- edges of the run were written, each at one step, and the others are pending
  pub record IsOut (m : Stream) (k : List ℕ) (steps count : ℕ) (nodes : List Link) : Type 0 where
    pub done : List ℕ
    pub left : List ℕ
    pub now : IsRest t version rows nodes left
    pub whole : done ++ passing_front (reaches_up t high) left ≡ run
    pub counted : length done ≡ count
    pub few : count + length left ≤ length t.ends
    pub passes : Passes (flat_map numbered done) o m h k
    pub steady : IsSteady o m
    pub took : steps ≡ started + count

  pub out-start : (nodes : List Link) → IsRest t version rows nodes rest → IsOut o h started 0 nodes
  out-start nodes r = record {
    done = [];
    left = rest;
    now = r;
    whole = refl;
    counted = refl;
    few = (let few = r.few in omega (arith, few));
    passes = nothing_passes refl refl;
    steady = steady_none o;
    took = omega arith;
  }

  module _ (m : Stream) (k : List ℕ) (steps count : ℕ) (nodes : List Link) (s : IsOut m k steps count nodes) where
    -- what was written, as a text that was put
    put_done : {T : Type 0} (x : T) → PutsText {T = T} {E = WriteFault} (flat_map numbered s.done) o m h k (Ok x)
    put_done x = record { ok = s.passes; err = tt; cause = record { later = (let e = s.steady.steady in omega (arith, e)); failed = tt; steady = s.steady.steady }; in_time = s.steady.in_time }

    -- where none of what is left is in the run, all of it was written
    module _ (none : passing_front (reaches_up t high) s.left ≡ []) where
      all_done : s.done ≡ run
      all_done = sym (append-nil s.done) ∙ (ap (λ xs. s.done ++ xs) (sym none) ∙ s.whole)

      pub out-put : (n : ℕ) → PutsText {T = ℕ} {E = WriteFault} (flat_map numbered run) o m h k (Ok n)
      out-put n = put_same (ap (flat_map numbered) all_done) (put_done n)

      pub out-count : count ≡ length run
      out-count = sym s.counted ∙ ap length all_done

    -- nothing is left
    pub out-none : s.left ≡ [] → passing_front (reaches_up t high) s.left ≡ []
    out-none e = ap (passing_front (reaches_up t high)) e

    module _ (e : ℕ) (more : List ℕ) (is : s.left ≡ e ∷ more) where
      pub out-range : e < length t.ends
      out-range = s.now.in_range e (ap (is_in e) is ∙ or_left (e == e) (is_in e more) (eq-eqb e e refl))

      pub out-less : count < length t.ends
      out-less = let few = s.few in let n = ap length is in omega (arith, few, n)

      -- the high point is below it
      pub out-blocked : is_below (edge t e) high ≡ true → passing_front (reaches_up t high) s.left ≡ []
      out-blocked under = ap (passing_front (reaches_up t high)) is ∙ cond-false (reaches_up t high e) (e ∷ passing_front (reaches_up t high) more) [] (not_from_true (is_below (edge t e) high) under)

      -- it is one of the run
      module _ (over : is_below (edge t e) high ≡ false) where
        front-more : passing_front (reaches_up t high) s.left ≡ e ∷ passing_front (reaches_up t high) more
        front-more = ap (passing_front (reaches_up t high)) is ∙ cond-true (reaches_up t high e) (e ∷ passing_front (reaches_up t high) more) [] (not_from_false (is_below (edge t e) high) over)

        whole-more : s.done ++ (e ∷ passing_front (reaches_up t high) more) ≡ run
        whole-more = ap (λ xs. s.done ++ xs) (sym front-more) ∙ s.whole

        pub out-room : count + 1 ≤ length run
        out-room = let n = ap length whole-more in let a = length-append s.done (e ∷ passing_front (reaches_up t high) more) in let c = s.counted in omega (arith, n, a, c)

        -- it was written
        pub out-more : {n : Stream} {i : List ℕ} {r : Result (Unit {0}) WriteFault} {x : Unit {0}} (later : List Link) (after next : ℕ) → r ≡ Ok x → PutsText (numbered e) m n k i r → IsPending version rows 0 later more → after ≡ steps + 1 → next ≡ count + 1 → IsOut n i after next later
        out-more {n = n} {i = i} {r = r} later after next ok p pending ticked up =
            let put = subst (λ (q : Result (Unit {0}) WriteFault). PutsText (numbered e) m n k i q) ok p in
            record {
              done = s.done ++ e ∷ [];
              left = more;
              now = record { pending = pending; in_range = λ d here. s.now.in_range d (ap (is_in d) is ∙ or_right (e == d) (is_in d more) here); few = (let few = s.now.few in let n = ap length is in omega (arith, few, n)) };
              whole = append_assoc s.done (e ∷ []) (passing_front (reaches_up t high) more) ∙ whole-more;
              counted = (let a = length-append s.done (e ∷ []) in let c = s.counted in omega (arith, a, c, up));
              few = (let few = s.few in let n = ap length is in omega (arith, few, n, up));
              passes = subst (λ xs. Passes xs o n h i) (ap (λ xs. flat_map numbered s.done ++ xs) (sym (append-nil (numbered e))) ∙ sym (flat_map-append numbered s.done (e ∷ []))) (passes-both s.passes put.ok);
              steady = steady_then s.steady (record { steady = put.cause.steady; in_time = put.in_time });
              took = (let k = s.took in omega (arith, k, ticked, up));
            }

        -- a write of it failed
        pub out-fail : {n : Stream} {i : List ℕ} {r : Result (Unit {0}) WriteFault} {second : Result ℕ WriteFault} {w d : WriteFault} → r ≡ Err w → second ≡ Err d → PutsText (numbered e) m n k i r → PutsText (flat_map numbered run) o n h i second
        out-fail failed fails p =
            put_same (sym (flat_map-append numbered s.done (e ∷ passing_front (reaches_up t high) more)) ∙ ap (flat_map numbered) whole-more)
            (both {T = ℕ} {U = ℕ} {E = WriteFault} {first = Ok 0} {x = 0} refl (put_done 0) (stop (flat_map numbered (passing_front (reaches_up t high) more)) failed fails p))
