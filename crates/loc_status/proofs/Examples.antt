-- Worked rows: the lists of the square from 0 0 to 4 4 as a status has them. Its edges are 0: 0 0, 0 4; 1: 0 0, 4 0; 2: 0 4, 4 4; 3: 4 0, 4 4.
use Rattle.std.proofs.Common.{◌≡◌, true, [], ◌∷◌, refl, Some, None}
use Rattle.std.proofs.lemmas.List.Elements.{All-nil, All-cons}
use Rattle.loc_spec_plane.specs.Points.{turn, is_above}
use Rattle.loc_spec_plane.specs.Tables.{table_by, table_of, corner, edge}
use Rattle.loc_spec_plane.proofs.Rows.{square}
use Rattle.loc_edges.specs.declared.ranks.Placing.TheVariants.{Below, Above}
use Rattle.loc_edges.specs.Placing.{IsPlacing}
use Rattle.loc_laws_order.specs.Laws.{last_that}
use Rattle.loc_status.specs.Lists.{is_chain_at, IsInserted, IsRemoved, IsNextBelow, IsNextAbove}

-- at corner 0 edge 1 goes below edge 0, and at corner 1 edge 2 goes above edge 1
lowest_inserted : IsInserted (table_of square) 1 (0 ∷ []) (1 ∷ 0 ∷ [])
unfolding table_by turn
lowest_inserted = record {
  front = [];
  back = 0 ∷ [];
  old_is = refl;
  new_is = refl;
  behind = All-nil (λ a. IsPlacing (edge (table_of square) a) (edge (table_of square) 1) Above);
  ahead = All-cons (λ a. IsPlacing (edge (table_of square) a) (edge (table_of square) 1) Below) 0 [] (refl, refl) (All-nil (λ a. IsPlacing (edge (table_of square) a) (edge (table_of square) 1) Below));
}

highest_inserted : IsInserted (table_of square) 2 (1 ∷ []) (1 ∷ 2 ∷ [])
unfolding table_by turn
highest_inserted = record {
  front = 1 ∷ [];
  back = [];
  old_is = refl;
  new_is = refl;
  behind = All-cons (λ a. IsPlacing (edge (table_of square) a) (edge (table_of square) 2) Above) 1 [] (refl, refl) (All-nil (λ a. IsPlacing (edge (table_of square) a) (edge (table_of square) 2) Above));
  ahead = All-nil (λ a. IsPlacing (edge (table_of square) a) (edge (table_of square) 2) Below);
}

-- both lists are chains at their corners, and the reverse of the second is none
chains : (is_chain_at (table_of square) 0 (1 ∷ 0 ∷ []) ≡ true) × (is_chain_at (table_of square) 1 (1 ∷ 2 ∷ []) ≡ true)
unfolding table_by turn
chains = (refl, refl)

-- edge 0 goes from the first list, of which it is the highest
highest_removed : IsRemoved 0 (1 ∷ 0 ∷ []) (1 ∷ [])
highest_removed = record { front = 1 ∷ []; back = []; old_is = refl; new_is = refl }

neighbours : IsNextBelow 0 (1 ∷ 0 ∷ []) (Some 1) × IsNextAbove 0 (1 ∷ 0 ∷ []) None
neighbours = (([], [], refl), (1 ∷ [], refl))

-- corner 1 is above edge 1 and not above edge 2, which begins there
floor : last_that (λ e. is_above (edge (table_of square) e) (corner (table_of square) 1)) (1 ∷ 2 ∷ []) ≡ Some 1
unfolding table_by turn
floor = refl
