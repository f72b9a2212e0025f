-- The floor of a point is the last edge of the list at the point that has it above: what an index that keeps lists goes by.
use Rattle.std.proofs.Common.{◌≡◌, ◌≢◌, ℕ, Bool, true, false, ◌&&◌, List, [], ◌∷◌, refl, sym, ◌∙◌, subst, inl, inr}
use Rattle.std.specs.Prelude.{Option, Some, None, ◌==◌}
use Rattle.std.specs.List.{list_all}
use Rattle.std.proofs.lemmas.Bool.{and_parts, and_from, or_left, or_right, or_cases, both_ways, true≢false, eq-eqb, eqb-true, not_from_false, false_from_ne_true}
use Rattle.loc_spec_plane.specs.{Lists.is_in, Lists.is_rising, Points.is_above, Tables.edge}
use Rattle.loc_spec_plane.specs.Places.{IsFloor, alive_at, lower_of}
use Rattle.loc_laws_order.specs.Laws.{later_or, last_that, FloorOfList}
use Rattle.loc_laws_order.proofs.Unique.{all-at}

module _ (comes_before : ℕ → ℕ → Bool) (test : ℕ → Bool) where
  -- h is the last member that passes
  abbrev pub IsLastThat : List ℕ → Option ℕ → Type 0
  IsLastThat ns None = (n : ℕ) → is_in n ns ≡ true → test n ≡ false
  IsLastThat ns (Some h) = (is_in h ns ≡ true) × (test h ≡ true) × ((n : ℕ) → is_in n ns ≡ true → test n ≡ true → n ≢ h → comes_before n h ≡ true)

  one_more : (n : ℕ) (ns : List ℕ) (later : Option ℕ) (b : Bool) → test n ≡ b → list_all (comes_before n) ns ≡ true → IsLastThat ns later → IsLastThat (n ∷ ns) (later_or later b n)
  one_more n ns (Some h) b is_b all last = (
    or_right (n == h) (is_in h ns) last.0,
    last.1,
    λ m in_m passes other. elim (or_cases (n == m) (is_in m ns) in_m) [
      | inl same ↦ subst (λ k. comes_before k h ≡ true) (eqb-true n m same) (all-at (comes_before n) ns h all last.0)
      | inr among ↦ last.2 m among passes other
    ],
  )
  one_more n ns None true is_b all last = (
    or_left (n == n) (is_in n ns) (eq-eqb n n refl),
    is_b,
    λ m in_m passes other. elim (or_cases (n == m) (is_in m ns) in_m) [
      | inl same ↦ absurd (other (sym (eqb-true n m same)))
      | inr among ↦ absurd (both_ways (test m) (last m among) passes)
    ],
  )
  one_more n ns None false is_b all last = λ m in_m. elim (or_cases (n == m) (is_in m ns) in_m) [
    | inl same ↦ subst (λ k. test k ≡ false) (eqb-true n m same) is_b
    | inr among ↦ last m among
  ]

  -- what `last_that` answers is the last that passes
  pub last_that_is : (ns : List ℕ) → is_rising comes_before ns ≡ true → IsLastThat ns (last_that test ns)
  last_that_is [] rising = λ n here. absurd (true≢false (sym here))
  last_that_is (n ∷ ns) rising = let parts = and_parts (list_all (comes_before n) ns) (is_rising comes_before ns) rising in one_more n ns (last_that test ns) (test n) refl parts.0 (last_that_is ns parts.1)

-- the floor of a point is the last edge of the list at the point that has it above
pub floor_of_list : FloorOfList
floor_of_list t p es is_list = at (last_that (λ e. is_above (edge t e) p) es) (last_that_is (lower_of t) (λ e. is_above (edge t e) p) es is_list.rising)
  where
    at : (floor : Option ℕ) → IsLastThat (lower_of t) (λ e. is_above (edge t e) p) es floor → IsFloor t p floor
    at None last = λ e. not_from_false (alive_at t p e && is_above (edge t e) p) (false_from_ne_true (alive_at t p e && is_above (edge t e) p) (λ h. (let parts = and_parts (alive_at t p e) (is_above (edge t e) p) h in both_ways (is_above (edge t e) p) (last e (is_list.exact e ∙ parts.0)) parts.1)))
    at (Some h) last = (and_from (alive_at t p h) (is_above (edge t h) p) (sym (is_list.exact h) ∙ last.0) last.1, λ e passes other. (let parts = and_parts (alive_at t p e) (is_above (edge t e) p) passes in last.2 e (is_list.exact e ∙ parts.0) parts.1 other))
