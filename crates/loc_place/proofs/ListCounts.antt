-- How many edges the list at a point has.
use Rattle.std.proofs.Common.{◌≡◌, ℕ, ◌+◌, ◌*◌, ◌≤◌, true, not, List, length, filter, refl, sym, ◌∙◌, ap, arith}
use Rattle.std.proofs.{Math.Dec.eqb, lemmas.Cmp.nat_eq_equiv, lemmas.Nat.mul-le, lemmas.List.Filters.length-filter_both}
use Rattle.std.specs.Set.{is_member}
use Rattle.std.proofs.lemmas.Bool.{le-ltb, not_from_false, and_from, eqb-true, lt-ltb}
use Rattle.std.proofs.lemmas.List.FromFn.{length-range_with_len}
use Rattle.std.proofs.lemmas.Map.Made.{is_member-filter, length-le_from_is_member}
use Rattle.loc_spec_plane.specs.{Points.Point, Lists.is_in, Tables.Table, Tables.edge_numbers}
use Rattle.loc_spec_plane.specs.Places.{alive_at, IsListAt}
use Rattle.loc_laws_order.proofs.{AliveAt.alive_parts, Kept.is_in-range, Sets.any_weaker, Sets.number_swap}
use Rattle.loc_place.specs.Steps.{alive_count}
use Rattle.loc_place.proofs.Listed.{distinct}

-- the two tests for a member
pub is_in_member : (q : ℕ) (es : List ℕ) → is_member eqb es q ≡ true → is_in q es ≡ true
is_in_member q es = any_weaker (eqb q) (λ m. eqb m q) (λ m same. sym (number_swap q m) ∙ same) es

-- the list at a point has at most as many edges as are alive there
pub listed_count : (t : Table) (p : Point) (es : List ℕ) → IsListAt t p es → length es ≤ alive_count t p
listed_count t p es is_list = length-le_from_is_member nat_eq_equiv es (filter (alive_at t p) (edge_numbers t)) (distinct t p es is_list) (λ q here.
    (let live : alive_at t p q ≡ true = sym (is_list.exact q) ∙ is_in_member q es here in
    let fits : is_in q (edge_numbers t) ≡ true = is_in-range 0 (length t.ends) q ∙ and_from _ _ (not_from_false _ (le-ltb q 0 (omega arith))) (lt-ltb q (0 + length t.ends) (omega (arith, (alive_parts t p q live).0))) in
    is_member-filter nat_eq_equiv (alive_at t p) q (λ x same. ap (alive_at t p) (eqb-true q x same)) (edge_numbers t)
    ∙ and_from (is_member eqb (edge_numbers t) q) (alive_at t p q) (any_weaker (λ m. eqb m q) (eqb q) (λ m same. number_swap q m ∙ same) (edge_numbers t) fits) live))

-- more edges, a greater bound
pub square_rises : (i j : ℕ) → i ≤ j → (i + 1) * (i + 1) ≤ (j + 1) * (j + 1)
square_rises i j h = mul-le (i + 1) (i + 1) (j + 1) (j + 1) (omega (arith, h)) (omega (arith, h))

-- no more edges are alive at a point than there are
pub alive_few : (t : Table) (p : Point) → alive_count t p ≤ length t.ends
alive_few t p =
    omega (arith, length-filter_both (alive_at t p) (λ e. not (alive_at t p e)) (λ e. refl) (edge_numbers t), length-range_with_len 0 (length t.ends))
