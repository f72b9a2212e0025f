-- The edge just below an edge is the one before it in the list at its lower end.
use Rattle.std.proofs.Common.{◌≡◌, ℕ, Bool, true, ◌&&◌, List, [], ◌∷◌, ◌++◌, ◌⊎◌, sym, ◌∙◌, subst, inl, inr}
use Rattle.std.specs.Prelude.{Option, Some, None, ◌==◌}
use Rattle.std.specs.List.{list_all}
use Rattle.std.proofs.lemmas.Bool.{and_parts, and_from, or_cases, eqb-true, not_from_false, false_from_ne_true}
use Rattle.loc_spec_plane.specs.{Lists.is_in, Lists.is_rising, Tables.Table, Tables.edge}
use Rattle.loc_spec_plane.specs.Places.{alive_at, lower_of, IsListAt, IsJustBelow}
use Rattle.loc_laws_order.proofs.{Sides.lower-asym, Unique.all-at}
use Rattle.loc_status.specs.Lists.{IsNextBelow}
use Rattle.loc_sweep.proofs.Chains.{in_between}

module _ (comes_before : ℕ → ℕ → Bool) where
  -- the part of a rising list from a place on
  rising_rest : (front rest : List ℕ) → is_rising comes_before (front ++ rest) ≡ true → is_rising comes_before rest ≡ true
  rising_rest [] rest rising = rising
  rising_rest (n ∷ front) rest rising = rising_rest front rest (and_parts (list_all (comes_before n) (front ++ rest)) (is_rising comes_before (front ++ rest)) rising).1

  -- a member of a rising list comes before the one at a place, or it stands at the place or behind it
  before-or_from : (front : List ℕ) (d : ℕ) (rest : List ℕ) → is_rising comes_before (front ++ d ∷ rest) ≡ true → (n : ℕ) → is_in n (front ++ d ∷ rest) ≡ true → (comes_before n d ≡ true) ⊎ (is_in n (d ∷ rest) ≡ true)
  before-or_from [] d rest rising n here = inr here
  before-or_from (m ∷ front) d rest rising n here =
      let parts = and_parts (list_all (comes_before m) (front ++ d ∷ rest)) (is_rising comes_before (front ++ d ∷ rest)) rising in
      elim (or_cases (m == n) (is_in n (front ++ d ∷ rest)) here) [
        | inl same ↦ inl (subst (λ k. comes_before k d ≡ true) (eqb-true m n same) (all-at (comes_before m) (front ++ d ∷ rest) d parts.0 (in_between d front rest)))
        | inr later ↦ before-or_from front d rest parts.1 n later
      ]

-- no edge is lower than e from e on
from_itself : (t : Table) (e : ℕ) (back : List ℕ) → is_rising (lower_of t) (e ∷ back) ≡ true → (d : ℕ) → is_in d (e ∷ back) ≡ true → lower_of t d e ≡ true → ⊥
from_itself t e back rising d here lower = elim (or_cases (e == d) (is_in d back) here) [
  | inl same ↦ (let self = subst (λ k. lower_of t k e ≡ true) (sym (eqb-true e d same)) lower in lower-asym (edge t e) (edge t e) self self)
  | inr later ↦ lower-asym (edge t d) (edge t e) lower (all-at (lower_of t e) back d (and_parts (list_all (lower_of t e) back) (is_rising (lower_of t) back) rising).0 later)
]

-- the edge before e in the list at the lower end of e is the edge just below e
pub just_below : (t : Table) (e : ℕ) (es : List ℕ) → IsListAt t (edge t e).lo es → (below : Option ℕ) → IsNextBelow e es below → IsJustBelow t e below
just_below t e es is_list None next = λ d. not_from_false (alive_at t (edge t e).lo d && lower_of t d e) (false_from_ne_true (alive_at t (edge t e).lo d && lower_of t d e) (λ h.
    (let parts = and_parts (alive_at t (edge t e).lo d) (lower_of t d e) h in
    from_itself t e next.0 (subst (λ ds. is_rising (lower_of t) ds ≡ true) next.1 is_list.rising) d (subst (λ ds. is_in d ds ≡ true) next.1 (is_list.exact d ∙ parts.0)) parts.1)))
just_below t e es is_list (Some b) next =
    let front = next.0 in
    let back = next.1 in
    let rising : is_rising (lower_of t) (front ++ b ∷ e ∷ back) ≡ true = subst (λ ds. is_rising (lower_of t) ds ≡ true) next.2 is_list.rising in
    let rest = and_parts (list_all (lower_of t b) (e ∷ back)) (is_rising (lower_of t) (e ∷ back)) (rising_rest (lower_of t) front (b ∷ e ∷ back) rising) in
    let near : lower_of t b e ≡ true = (and_parts (lower_of t b e) (list_all (lower_of t b) back) rest.0).0 in
    let listed : is_in b es ≡ true = subst (λ ds. is_in b ds ≡ true) (sym next.2) (in_between b front (e ∷ back)) in (
      and_from (alive_at t (edge t e).lo b) (lower_of t b e) (sym (is_list.exact b) ∙ listed) near,
      λ d passes other. (let parts = and_parts (alive_at t (edge t e).lo d) (lower_of t d e) passes in
          elim (before-or_from (lower_of t) front b (e ∷ back) rising d (subst (λ ds. is_in d ds ≡ true) next.2 (is_list.exact d ∙ parts.0))) [
            | inl lower ↦ lower
            | inr from ↦ elim (or_cases (b == d) (is_in d (e ∷ back)) from) [
              | inl same ↦ absurd (other (sym (eqb-true b d same)))
              | inr later ↦ absurd (from_itself t e back rest.1 d later parts.1)
            ]
          ]),
    )
