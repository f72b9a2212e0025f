-- What the line of a sweep holds while the edges that end at a corner leave it.
use Rattle.std.proofs.Common.{◌≡◌, ℕ, zero, suc, ◌+◌, ◌-◌, ◌<◌, Bool, true, false, not, ◌&&◌, ◌||◌, List, [], ◌∷◌, length, map, take, get_or, filter, refl, sym, ◌∙◌, ap, subst, ◌⊎◌, inl, inr, arith, Some, slice_get}
use Rattle.std.specs.Prelude.{nat_lt, ◌==◌}
use Rattle.std.specs.List.{list_all, range_with_len}
use Rattle.std.proofs.lemmas.Option.{slice_get-get_or}
use Rattle.std.proofs.lemmas.Bool.{and_from, and_parts, or_from, or_left, or_right, both_ways, cases_Bool, cases_lt, cases_order, cond-true, cond-false, eq-eqb, eqb-true, ne_eqb, le-ltb, lt-ltb, ltb-true, not_from_false, not-true}
use Rattle.loc_spec_plane.specs.{Points.Edge, Lists.is_in, Places.alive, Places.is_edge, Places.neighbours_rise}
use Rattle.loc_spec_plane.specs.Tables.{Table, IsTable, corner, edge, lo_of, hi_of, edge_numbers}
use Rattle.loc_laws_order.proofs.{ListLaws.is_in-get, AliveAt.alive_between, Kept.is_in-filter, Kept.is_in-range}
use Rattle.loc_laws_order.proofs.{Sets.number_swap, Booleans.or_assoc, Booleans.or_none}
use Rattle.loc_status.specs.{Lists.is_chain_at, Meaning.StatusMeaning, Meaning.KeepsSealed, Meaning.Removes}
use Rattle.loc_sweep.specs.Course.{Leaves}
use Rattle.loc_sweep.specs.Line.{IsWithout, reaches, goes_past, ending_at}
use Rattle.loc_sweep.proofs.Chains.{removed_length}

-- ---- the edges that end at a corner
-- they are those whose upper end the corner is
pub is_in-ending : (t : Table) (c n : ℕ) → is_in n (ending_at t c) ≡ (is_edge t n && (hi_of t n == c))
is_in-ending t c n = is_in-filter (λ e. hi_of t e == c) n (edge_numbers t) ∙ ap (λ b. b && (hi_of t n == c)) (is_in-range 0 (length t.ends) n ∙ elim (cases_lt n (length t.ends)) [ inl less ↦ grind arith | inr more ↦ grind arith ])

-- a member of a filtered range does not stand before its place
not_before-range : (test : ℕ → Bool) (a k j e : ℕ) → slice_get (filter test (range_with_len a k)) j ≡ Some e → is_in e (take j (filter test (range_with_len a k))) ≡ false
not_before-range test a zero j e at = absurd cc
not_before-range test a (suc k) j e at = elim (cases_Bool (test a)) [
  | inl passes ↦ (let front = cond-true (test a) (a ∷ filter test (range_with_len (a + 1) k)) (filter test (range_with_len (a + 1) k)) passes in
      ap (λ ns. is_in e (take j ns)) front ∙ at_front (not_before-range test (a + 1) k) j e (sym (ap (λ ns. slice_get ns j) front) ∙ at))
  | inr fails ↦ (let front = cond-false (test a) (a ∷ filter test (range_with_len (a + 1) k)) (filter test (range_with_len (a + 1) k)) fails in
      ap (λ ns. is_in e (take j ns)) front ∙ not_before-range test (a + 1) k j e (sym (ap (λ ns. slice_get ns j) front) ∙ at))
]
  where
    at_front : ((j e : ℕ) → slice_get (filter test (range_with_len (a + 1) k)) j ≡ Some e → is_in e (take j (filter test (range_with_len (a + 1) k))) ≡ false)
        → (j e : ℕ) → slice_get (a ∷ filter test (range_with_len (a + 1) k)) j ≡ Some e → is_in e (take j (a ∷ filter test (range_with_len (a + 1) k))) ≡ false
    at_front rest zero e at = refl
    at_front rest (suc j) e at =
        let here : is_in e (filter test (range_with_len (a + 1) k)) ≡ true = is_in-get (filter test (range_with_len (a + 1) k)) j e at in
        let inside = and_parts (is_in e (range_with_len (a + 1) k)) (test e) (sym (is_in-filter test e (range_with_len (a + 1) k)) ∙ here) in
        let bounds = and_parts (not (nat_lt e (a + 1))) (nat_lt e ((a + 1) + k)) (sym (is_in-range (a + 1) k e) ∙ inside.0) in
        or_from (a == e) (is_in e (take j (filter test (range_with_len (a + 1) k)))) (ne_eqb a e (λ same. (let less : e < a + 1 = omega arith in both_ways (nat_lt e (a + 1)) (not-true (nat_lt e (a + 1)) bounds.0) (lt-ltb e (a + 1) less)))) (rest j e at)

-- an edge that ends there has not left before its turn
pub not_gone : (t : Table) (c j e : ℕ) → slice_get (ending_at t c) j ≡ Some e → is_in e (take j (ending_at t c)) ≡ false
not_gone t c j e at = not_before-range (λ e. hi_of t e == c) 0 (length t.ends) j e at

-- it is an edge whose upper end the corner is
pub ends_here : (t : Table) (c j e : ℕ) → slice_get (ending_at t c) j ≡ Some e → (e < length t.ends) × (hi_of t e ≡ c)
ends_here t c j e at =
    let parts = and_parts (is_edge t e) (hi_of t e == c) (sym (is_in-ending t c e) ∙ is_in-get (ending_at t c) j e at) in
    (ltb-true e (length t.ends) parts.0, eqb-true (hi_of t e) c parts.1)

-- one more member at the end of a front
is_in-take : (ns : List ℕ) (j e n : ℕ) → slice_get ns j ≡ Some e → is_in n (take (suc j) ns) ≡ (is_in n (take j ns) || (e == n))
is_in-take [] j e n at = absurd cc
is_in-take (m ∷ ns) zero e n at = let same : m ≡ e = cc in ap (λ k. (k == n) || false) same ∙ or_none (e == n)
is_in-take (m ∷ ns) (suc j) e n at = ap (λ b. (m == n) || b) (is_in-take ns j e n at) ∙ or_assoc (m == n) (is_in n (take j ns)) (e == n)

-- ---- one edge after another
-- the edges that reach corner c, but for those that have gone
pub record IsLeaving (t : Table) (c : ℕ) (gone : List ℕ) (old new : StatusMeaning) : Type 0 where
  pub chain : is_chain_at t (c - 1) new.list ≡ true
  pub exact : (n : ℕ) → is_in n new.list ≡ (reaches t c n && not (is_in n gone))
  pub kept : KeepsSealed old new
  pub inserted : new.inserted ≡ old.inserted
  pub balance : new.removed + length new.list ≡ old.removed + length old.list
  pub past_greatest : new.past_greatest ≡ old.past_greatest

-- the next of those that end there is still in the list
pub still_there : (t : Table) → IsTable t → (c j e : ℕ) (old mid : StatusMeaning) → slice_get (ending_at t c) j ≡ Some e → IsLeaving t c (take j (ending_at t c)) old mid → is_in e mid.list ≡ true
still_there t ok c j e old mid at leaving =
    let here = ends_here t c j e at in
    let up = ok.goes_up e here.0 in
    leaving.exact e ∙ and_from (reaches t c e) (not (is_in e (take j (ending_at t c))))
    (and_from (is_edge t e) (nat_lt (lo_of t e) c && not (nat_lt (hi_of t e) c)) (lt-ltb e (length t.ends) here.0)
    (and_from (nat_lt (lo_of t e) c) (not (nat_lt (hi_of t e) c)) (lt-ltb (lo_of t e) c (omega (arith, here.1))) (not_from_false (nat_lt (hi_of t e) c) (le-ltb (hi_of t e) c (omega (arith, here.1))))))
    (not_from_false (is_in e (take j (ending_at t c))) (not_gone t c j e at))

-- then it has gone too
pub one_gone : (t : Table) (c j e : ℕ) (old mid new : StatusMeaning) → slice_get (ending_at t c) j ≡ Some e → IsLeaving t c (take j (ending_at t c)) old mid
    → Removes e mid new → is_chain_at t (c - 1) new.list ≡ true → IsWithout e mid.list new.list → IsLeaving t c (take (suc j) (ending_at t c)) old new
one_gone t c j e old mid new at leaving removes chain without = record {
  chain = chain;
  exact = λ n. without n ∙ (ap (λ b. b && not (n == e)) (leaving.exact n) ∙ (table (reaches t c n) (is_in n (take j (ending_at t c))) (n == e) ∙
      ap (λ b. reaches t c n && not b) (ap (λ b. is_in n (take j (ending_at t c)) || b) (number_swap n e) ∙ sym (is_in-take (ending_at t c) j e n at))));
  kept = record { sealed_lists = removes.kept.sealed_lists ∙ leaving.kept.sealed_lists; sealed = removes.kept.sealed ∙ leaving.kept.sealed };
  inserted = removes.inserted ∙ leaving.inserted;
  balance = (let shorter = removed_length e mid.list new.list removes.list in omega (arith, removes.removed, leaving.balance, shorter));
  past_greatest = removes.past_greatest ∙ leaving.past_greatest;
}
  where
    table : (r g x : Bool) → ((r && not g) && not x) ≡ (r && not (g || x))
    table true true x = refl
    table true false x = refl
    table false g x = refl

-- ---- all of them
-- edges of which each is alive at a corner
all_alive : (t : Table) (c : ℕ) (es : List ℕ) → ((n : ℕ) → is_in n es ≡ true → alive (edge t n) (corner t c) ≡ true) → list_all (λ (e : Edge). alive e (corner t c)) (map (edge t) es) ≡ true
all_alive t c [] each = refl
all_alive t c (n ∷ es) each = and_from (alive (edge t n) (corner t c)) (list_all (λ (e : Edge). alive e (corner t c)) (map (edge t) es))
    (each n (or_left (n == n) (is_in n es) (eq-eqb n n refl))) (all_alive t c es (λ k here. each k (or_right (n == k) (is_in k es) here)))

-- a chain at one corner is one at another where each of its edges is alive
chain_moves : (t : Table) (b c : ℕ) (es : List ℕ) → is_chain_at t b es ≡ true → ((n : ℕ) → is_in n es ≡ true → alive (edge t n) (corner t c) ≡ true) → is_chain_at t c es ≡ true
chain_moves t b c es chain each = and_from (list_all (λ (e : Edge). alive e (corner t c)) (map (edge t) es)) (neighbours_rise (map (edge t) es)) (all_alive t c es each)
    (and_parts (list_all (λ (e : Edge). alive e (corner t b)) (map (edge t) es)) (neighbours_rise (map (edge t) es)) chain).1

-- what reaches a corner and does not end there goes past it
past_is : (t : Table) (c n : ℕ) → (reaches t c n && not (is_in n (ending_at t c))) ≡ goes_past t c n
past_is t c n = ap (λ b. reaches t c n && not b) (is_in-ending t c n) ∙ elim (cases_order (hi_of t n) c) [
  | inl same ↦ table (is_edge t n) (nat_lt (lo_of t n) c) (nat_lt (hi_of t n) c) (hi_of t n == c) (nat_lt c (hi_of t n)) (inr (inl (le-ltb (hi_of t n) c (omega arith), eq-eqb (hi_of t n) c same, le-ltb c (hi_of t n) (omega arith))))
  | inr differ ↦ elim differ [
    | inl less ↦ table (is_edge t n) (nat_lt (lo_of t n) c) (nat_lt (hi_of t n) c) (hi_of t n == c) (nat_lt c (hi_of t n)) (inl (lt-ltb (hi_of t n) c less, ne_eqb (hi_of t n) c (λ same. omega arith), le-ltb c (hi_of t n) (omega arith)))
    | inr more ↦ table (is_edge t n) (nat_lt (lo_of t n) c) (nat_lt (hi_of t n) c) (hi_of t n == c) (nat_lt c (hi_of t n)) (inr (inr (le-ltb (hi_of t n) c (omega arith), ne_eqb (hi_of t n) c (λ same. omega arith), lt-ltb c (hi_of t n) more)))
  ]
]
  where
    table : (x y under at over : Bool) → ((under ≡ true) × (at ≡ false) × (over ≡ false)) ⊎ (((under ≡ false) × (at ≡ true) × (over ≡ false)) ⊎ ((under ≡ false) × (at ≡ false) × (over ≡ true)))
        → ((x && (y && not under)) && not (x && at)) ≡ (x && (y && over))
    table false y under at over case = refl
    table true false under at over case = refl
    table true true under at over (inl (u, a, o)) = rw (u, o) refl
    table true true under at over (inr (inl (u, a, o))) = rw (u, a, o) refl
    table true true under at over (inr (inr (u, a, o))) = rw (u, a, o) refl

-- then the line goes on behind the corner
pub all_gone : (t : Table) → IsTable t → (c : ℕ) (old new : StatusMeaning) → IsLeaving t c (ending_at t c) old new → Leaves t c old new
all_gone t ok c old new leaving =
    let exact : (n : ℕ) → is_in n new.list ≡ goes_past t c n = λ n. leaving.exact n ∙ past_is t c n in
    record {
      list = record {
        chain = chain_moves t (c - 1) c new.list leaving.chain (λ n here.
            (let parts = and_parts (is_edge t n) (nat_lt (lo_of t n) c && nat_lt c (hi_of t n)) (sym (exact n) ∙ here) in
            let bounds = and_parts (nat_lt (lo_of t n) c) (nat_lt c (hi_of t n)) parts.1 in
            let from : lo_of t n < c = ltb-true (lo_of t n) c bounds.0 in
            alive_between t ok c n (ltb-true n (length t.ends) parts.0) (omega arith) (ltb-true c (hi_of t n) bounds.1)));
        exact = exact;
      };
      kept = leaving.kept;
      inserted = leaving.inserted;
      balance = leaving.balance;
      past_greatest = leaving.past_greatest;
    }

-- ---- the same of the list of those edges, by the place in it
module _ (t : Table) (ok : IsTable t) (c : ℕ) (es : List ℕ) (are : es ≡ ending_at t c) (k : ℕ) (fits : k < length es) where
  item : slice_get (ending_at t c) k ≡ Some (get_or es k 0)
  item = subst (λ ds. slice_get ds k ≡ Some (get_or es k 0)) are (slice_get-get_or es k 0 fits)

  -- the next edge is one, and ends there
  pub next_ends : (get_or es k 0 < length t.ends) × (hi_of t (get_or es k 0) ≡ c)
  next_ends = ends_here t c k (get_or es k 0) item

  module _ (old mid : StatusMeaning) (leaving : IsLeaving t c (take k es) old mid) where
    so_far : IsLeaving t c (take k (ending_at t c)) old mid
    so_far = subst (λ ds. IsLeaving t c (take k ds) old mid) are leaving

    -- the list is a chain at the corner before its end
    pub next_chain : is_chain_at t (hi_of t (get_or es k 0) - 1) mid.list ≡ true
    next_chain = subst (λ h. is_chain_at t (h - 1) mid.list ≡ true) (sym next_ends.1) leaving.chain

    -- and it is in the list
    pub next_there : is_in (get_or es k 0) mid.list ≡ true
    next_there = still_there t ok c k (get_or es k 0) old mid item so_far

    -- then it is gone
    pub next_gone : (new : StatusMeaning) → Removes (get_or es k 0) mid new → is_chain_at t (hi_of t (get_or es k 0) - 1) new.list ≡ true → IsWithout (get_or es k 0) mid.list new.list → IsLeaving t c (take (k + 1) es) old new
    next_gone new removes chain without =
        let more : suc k ≡ k + 1 = omega arith in
        subst (λ j. IsLeaving t c (take j es) old new) more (subst (λ ds. IsLeaving t c (take (suc k) ds) old new) (sym are)
        (one_gone t c k (get_or es k 0) old mid new item so_far removes (subst (λ h. is_chain_at t (h - 1) new.list ≡ true) next_ends.1 chain) without))
