-- The turn list of a corner, computed: the edges there, put in order one after another.
use Rattle.std.proofs.Common.{◌≡◌, ℕ, ◌<◌, true, false, ◌&&◌, length, filter, sym, ◌∙◌, ap, inl, inr}
use Rattle.std.specs.Prelude.{◌==◌, nat_lt}
use Rattle.std.specs.List.{list_all}
use Rattle.std.proofs.lemmas.Bool.{and_from, both_ways, cases_eq, cases_lt, cond-true, le-ltb, lt-ltb}
use Rattle.loc_spec_plane.specs.{Lists.before_round, Lists.is_in, Lists.numbers, Places.is_edge}
use Rattle.loc_spec_plane.specs.Tables.{Table, IsTable, NoConflict, edge_numbers, ends_at}
use Rattle.loc_spec_plane.specs.HalfEdges.{comes_round, edge_of, half_edge_count, leaving, target, IsTurnList, IsNext}
use Rattle.loc_spec_plane.proofs.Checks.{is_in-past}
use Rattle.loc_laws_order.proofs.{Kept.all_filter, Sets.set_of, TableOrder.numbers_within}
use Rattle.loc_laws_rays.proofs.Members.{in_numbers, is_in-filter}
use Rattle.loc_half.specs.Turns.{stands_at}
use Rattle.loc_half.proofs.Turning.{turn-total, turn-trans}
use Rattle.loc_faces.specs.Subdivision.{turn_list, next_at}

module _ (t : Table) (ok : IsTable t) (quiet : NoConflict t) where
  -- the edges at a corner, by number
  at_corner : (c e : ℕ) → is_in e (filter (ends_at t c) (edge_numbers t)) ≡ stands_at t c e
  at_corner c e = is_in-filter (ends_at t c) e (edge_numbers t) ∙ ap (λ b. b && ends_at t c e) (elim (cases_lt e (length t.ends)) [
    | inl lt ↦ in_numbers e (length t.ends) lt ∙ sym (lt-ltb e (length t.ends) lt)
    | inr past ↦ is_in-past (numbers (length t.ends)) (length t.ends) e (numbers_within (length t.ends)) past ∙ sym (le-ltb e (length t.ends) past)
  ])

  all_at : (c : ℕ) → list_all (stands_at t c) (filter (ends_at t c) (edge_numbers t)) ≡ true
  all_at c = all_filter (ends_at t c) (λ k. nat_lt k (length t.ends)) (stands_at t c) (λ n fits ends. and_from (is_edge t n) (ends_at t c n) fits ends) (edge_numbers t) (numbers_within (length t.ends))

  -- of two edges at a corner of which neither comes before the other, going round, the two are one
  one_at : (c a b : ℕ) → stands_at t c a ≡ true → stands_at t c b ≡ true → comes_round t c a b ≡ false → comes_round t c b a ≡ false → a ≡ b
  one_at c a b at_a at_b not_ab not_ba = elim (cases_eq a b) [
    | inl same ↦ same
    | inr other ↦ absurd (elim (turn-total t ok quiet c a b at_a at_b other) [ inl first ↦ both_ways _ not_ab first | inr second ↦ both_ways _ not_ba second ])
  ]

  -- the computed turn list is one
  pub turn_list_is : (c : ℕ) → IsTurnList t c (turn_list t c)
  turn_list_is c =
      let set = set_of (comes_round t c) (stands_at t c) (one_at c) (turn-trans t ok quiet c) (filter (ends_at t c) (edge_numbers t)) (all_at c) in
      record { rising = set.0; exact = λ e. set.1 (λ m. m == e) ∙ at_corner c e }

  -- and the computed next
  pub next_at_is : (h : ℕ) → h < half_edge_count t → IsNext t h (next_at t h)
  unfolding next_at
  next_at_is h lt = (turn_list t (target t h), turn_list_is (target t h), cond-true (nat_lt h (half_edge_count t)) (leaving t (target t h) (before_round (edge_of h) (turn_list t (target t h)))) 0 (lt-ltb h (half_edge_count t) lt))
