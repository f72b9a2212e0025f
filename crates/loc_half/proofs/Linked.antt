-- Linking the half-edges at a corner, edge after edge of its turn list.
use Rattle.std.proofs.Common.{◌≡◌, ◌≢◌, ℕ, suc, ◌+◌, ◌-◌, ◌<◌, true, false, List, [], ◌∷◌, length, get_or, set, take, drop, refl, sym, ◌∙◌, ap, subst, inl, inr, arith, get_or-set_same, get_or-set_other, length-set}
use Rattle.std.specs.Prelude.{◌==◌}
use Rattle.std.proofs.lemmas.Bool.{and_parts, or_cases, or_parts, cases_eq, cond-true, cond-false, eqb-true, eq-eqb, ltb-true, false_from_ne_true, true≢false}
use Rattle.std.proofs.lemmas.List.{drop_more, get_or-take, length-take-le}
use Rattle.std.proofs.lemmas.List.Folds.{list_any_more, list_any_at}
use Rattle.loc_spec_plane.specs.Lists.{is_in, last_or_else, before_from, before_round}
use Rattle.loc_spec_plane.specs.{Tables.Table, Tables.IsTable, Tables.ends_at, Places.is_edge}
use Rattle.loc_spec_plane.specs.HalfEdges.{comes_round, half_edge_count, edge_of, target, leaving, IsTurnList}
use Rattle.loc_laws_order.proofs.{TableOrder.rises, Unique.comes_round-asym}
use Rattle.std.proofs.lemmas.Option.{get_or_from_slice_get, slice_get_within}
use Rattle.loc_status.proofs.Ends.{member_place}
use Rattle.loc_half.specs.Turns.{arriving}
use Rattle.loc_half.proofs.Halves.{arriving-fits, arriving-target, edge-arriving, target-arriving}

-- the last of a list that is not empty
pub last_is : (n : ℕ) (ns : List ℕ) → 0 < length ns → get_or ns (length ns - 1) 0 ≡ last_or_else n ns
last_is n [] some = absurd (omega arith)
last_is n (m ∷ []) some = refl
last_is n (m ∷ k ∷ ns) some =
    let more : 0 < length (k ∷ ns) = omega arith in
    let at : length (m ∷ k ∷ ns) - 1 ≡ suc (length (k ∷ ns) - 1) = omega arith in
    ap (λ i. get_or (m ∷ k ∷ ns) i 0) at ∙ last_is m (k ∷ ns) more

-- a member has a place
pub place_of : (n : ℕ) (ns : List ℕ) → is_in n ns ≡ true → (j : ℕ) × (j < length ns) × (get_or ns j 0 ≡ n)
place_of n ns here = let found = member_place ns n here in (found.0, slice_get_within ns found.0 n found.1, get_or_from_slice_get ns found.0 n 0 found.1)

-- so far as the first edges of the turn list: the half-edges that arrive by them are linked, and what stands before each other edge is found from the last of them
pub record IsLinking (t : Table) (c : ℕ) (turns : List ℕ) (old nexts : List ℕ) (done before : ℕ) : Type 0 where
  pub as_many : length nexts ≡ half_edge_count t
  pub known : before < length t.ends
  pub behind : (n : ℕ) → is_in n (take done turns) ≡ false → before_round n turns ≡ before_from before n (drop done turns)
  pub linked : (h : ℕ) → h < half_edge_count t → target t h ≡ c → is_in (edge_of h) (take done turns) ≡ true → get_or nexts h 0 ≡ leaving t c (before_round (edge_of h) turns)
  pub others : (h : ℕ) → target t h ≢ c → get_or nexts h 0 ≡ get_or old h 0

module _ (t : Table) (ok : IsTable t) (c : ℕ) (turns : List ℕ) (listed : IsTurnList t c turns) where
  -- a place of the turn list has an edge that ends at the corner
  at_corner : (i : ℕ) → i < length turns → (get_or turns i 0 < length t.ends) × (ends_at t c (get_or turns i 0) ≡ true)
  at_corner i lt =
      let parts = and_parts (is_edge t (get_or turns i 0)) (ends_at t c (get_or turns i 0)) (sym (listed.exact (get_or turns i 0)) ∙ list_any_at (λ m. m == get_or turns i 0) turns i 0 lt (eq-eqb (get_or turns i 0) (get_or turns i 0) refl)) in
      (ltb-true (get_or turns i 0) (length t.ends) parts.0, parts.1)

  pub turn_fits : (i : ℕ) → i < length turns → get_or turns i 0 < length t.ends
  turn_fits i lt = (at_corner i lt).0

  -- an edge does not stand among those before its place
  new_at : (i : ℕ) → i < length turns → is_in (get_or turns i 0) (take i turns) ≡ false
  new_at i lt = false_from_ne_true (is_in (get_or turns i 0) (take i turns)) (λ here.
      (let found = place_of (get_or turns i 0) (take i turns) here in
      let early : found.0 < i = omega (arith, found.1, length-take-le i turns (omega (arith, lt))) in
      let same : get_or turns found.0 0 ≡ get_or turns i 0 = sym (get_or-take i turns found.0 0 early) ∙ found.2 in
      let comes = rises (comes_round t c) 0 turns found.0 i listed.rising early lt in
      let self : comes_round t c (get_or turns i 0) (get_or turns i 0) ≡ true = subst (λ e. comes_round t c e (get_or turns i 0) ≡ true) same comes in
      comes_round-asym t c (get_or turns i 0) (get_or turns i 0) self self))

  -- nothing linked yet
  pub linking_start : (old : List ℕ) (before : ℕ) → length old ≡ half_edge_count t → 0 < length turns → before ≡ get_or turns (length turns - 1) 0 → IsLinking t c turns old old 0 before
  linking_start old before size some last = record {
    as_many = size;
    known = subst (λ e. e < length t.ends) (sym last) (turn_fits (length turns - 1) (omega (arith, some)));
    behind = λ n _. ap (λ x. before_from x n turns) (sym (last ∙ last_is n turns some));
    linked = λ h lt at here. absurd (true≢false (sym here));
    others = λ h off. refl;
  }

  module _ (old nexts : List ℕ) (i before : ℕ) (lt : i < length turns) (linking : IsLinking t c turns old nexts i before) where
    first_left : drop i turns ≡ get_or turns i 0 ∷ drop (i + 1) turns
    first_left = drop_more turns i 0 lt

    -- one edge more
    pub linking_more : IsLinking t c turns old (set nexts (arriving t c (get_or turns i 0)) (leaving t c before)) (i + 1) (get_or turns i 0)
    linking_more =
        record {
          as_many = length-set nexts (arriving t c (get_or turns i 0)) (leaving t c before) ∙ linking.as_many;
          known = turn_fits i lt;
          behind = λ n new. (let apart = or_parts (is_in n (take i turns)) (get_or turns i 0 == n) (sym (list_any_more (λ m. m == n) turns i 0 lt) ∙ new) in
              linking.behind n apart.0 ∙ (ap (before_from before n) first_left ∙ cond-false (get_or turns i 0 == n) before (before_from (get_or turns i 0) n (drop (i + 1) turns)) apart.1));
          linked = λ h fits at here. elim (cases_eq h (arriving t c (get_or turns i 0))) [
            | inl same ↦ (let edge : edge_of h ≡ get_or turns i 0 = ap edge_of same ∙ edge-arriving t c (get_or turns i 0) in
                let inside : arriving t c (get_or turns i 0) < length nexts = (let below = arriving-fits t c (get_or turns i 0) (turn_fits i lt) in omega (arith, below, linking.as_many)) in
                let found : before_round (get_or turns i 0) turns ≡ before = linking.behind (get_or turns i 0) (new_at i lt) ∙ (ap (before_from before (get_or turns i 0)) first_left ∙ cond-true (get_or turns i 0 == get_or turns i 0) before (before_from (get_or turns i 0) (get_or turns i 0) (drop (i + 1) turns)) (eq-eqb (get_or turns i 0) (get_or turns i 0) refl)) in
                ap (λ k. get_or (set nexts (arriving t c (get_or turns i 0)) (leaving t c before)) k 0) same ∙ (get_or-set_same nexts (arriving t c (get_or turns i 0)) (leaving t c before) 0 inside ∙ ap (leaving t c) (sym (ap (λ k. before_round k turns) edge ∙ found))))
            | inr other ↦ get_or-set_other nexts (arriving t c (get_or turns i 0)) h (leaving t c before) 0 other ∙ linking.linked h fits at (elim (or_cases (is_in (edge_of h) (take i turns)) (get_or turns i 0 == edge_of h) (sym (list_any_more (λ m. m == edge_of h) turns i 0 lt) ∙ here)) [
              | inl before_it ↦ before_it
              | inr it ↦ absurd (other (sym (arriving-target t ok h fits) ∙ (ap (λ k. arriving t k (edge_of h)) at ∙ ap (arriving t c) (sym (eqb-true (get_or turns i 0) (edge_of h) it)))))
            ])
          ];
          others = λ h off. get_or-set_other nexts (arriving t c (get_or turns i 0)) h (leaving t c before) 0 (λ same. off (ap (target t) same ∙ target-arriving t c (get_or turns i 0) (at_corner i lt).1)) ∙ linking.others h off;
        }
