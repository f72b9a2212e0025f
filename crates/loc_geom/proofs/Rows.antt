-- Worked rows: the grid, the sides of points, and how edges meet, computed by the definitions that the contracts cite.
use Rattle.std.proofs.Common.{◌≡◌, ℤ, pos, negsuc, Bool, true, false, List, [], ◌∷◌, map, refl, arith}
use Rattle.std.proofs.lemmas.Int.{ints}
use Rattle.loc_spec_plane.specs.Points.{Point, Edge, OnGrid, turn, is_above, is_on, is_below, lies_on, edge_before, touch, cross, conflict}
use Rattle.loc_spec_plane.specs.{Places.lower, Rings.segment_between}

-- the greatest coordinate, and the least
abbrev far : ℤ
far = pos 1000000000000000000

abbrev back : ℤ
back = negsuc 999999999999999999

on_grid : OnGrid far × OnGrid back
on_grid = (omega (arith, ints), omega (arith, ints))

off_grid : ¬ (OnGrid (pos 1000000000000000001)) × ¬ (OnGrid (negsuc 1000000000000000000))
off_grid = ((λ h. omega (arith, ints)), (λ h. omega (arith, ints)))

abbrev at : ℤ → ℤ → Point
at x y = record { x = x; y = y }

-- an edge by its ends, in any order
abbrev between : ℤ → ℤ → ℤ → ℤ → Edge
between x y x' y' = segment_between (at x y) (at x' y')

-- the upright edge comes first
upright_first : edge_before (between (pos 4) (pos 0) (pos 0) (pos 9)) (between (pos 0) (pos 9) (pos 5) (negsuc 8)) ≡ true
upright_first = refl

-- whether a point is above an edge, on its line, below it, and on the edge itself
abbrev stands : Edge → Point → List Bool
stands e p = is_above e p ∷ is_on e p ∷ is_below e p ∷ lies_on e p ∷ []

-- of a level edge: above it, below it, at its end, and behind that on its line
level : map (stands (between (pos 4) (pos 0) (pos 0) (pos 0))) (at (pos 2) (pos 1) ∷ at (pos 2) (negsuc 0) ∷ at (pos 4) (pos 0) ∷ at (pos 5) (pos 0) ∷ []) ≡ (true ∷ false ∷ false ∷ false ∷ []) ∷ (false ∷ false ∷ true ∷ false ∷ []) ∷ (false ∷ true ∷ false ∷ true ∷ []) ∷ (false ∷ true ∷ false ∷ false ∷ []) ∷ []
unfolding turn
level = refl

-- what is right of an upright edge is below it
upright : stands (between (pos 0) (pos 4) (pos 0) (pos 0)) (at (pos 1) (pos 2)) ≡ false ∷ false ∷ true ∷ false ∷ []
unfolding turn
upright = refl

-- the longest edges
longest_above : stands (between back back far (pos 999999999999999999)) (at (pos 0) (pos 0)) ≡ true ∷ false ∷ false ∷ false ∷ []
unfolding turn
longest_above = refl

longest_below : stands (between back back far far) (at far back) ≡ false ∷ false ∷ true ∷ false ∷ []
unfolding turn
longest_below = refl

-- whether two edges touch, cross and conflict, and whether the first is lower
abbrev meet : Edge → Edge → List Bool
meet a b = touch a b ∷ cross a b ∷ conflict a b ∷ lower a b ∷ []

crossed : meet (between (pos 0) (pos 0) (pos 4) (pos 4)) (between (pos 0) (pos 4) (pos 4) (pos 0)) ≡ false ∷ true ∷ true ∷ true ∷ []
unfolding turn
crossed = refl

longest_crossed : meet (between back back far far) (between back far far back) ≡ false ∷ true ∷ true ∷ true ∷ []
unfolding turn
longest_crossed = refl

-- a level edge, and one that begins in it, one that overlaps it, itself, one that begins with it, one that begins at its end, and one above it
level_meets : map (meet (between (pos 0) (pos 0) (pos 4) (pos 0))) (between (pos 2) (pos 0) (pos 2) (pos 3) ∷ between (pos 2) (pos 0) (pos 6) (pos 0) ∷ between (pos 0) (pos 0) (pos 4) (pos 0) ∷ between (pos 0) (pos 0) (pos 4) (pos 1) ∷ between (pos 4) (pos 0) (pos 6) (pos 2) ∷ between (pos 1) (pos 1) (pos 3) (pos 1) ∷ []) ≡ (true ∷ false ∷ true ∷ false ∷ []) ∷ (true ∷ false ∷ true ∷ false ∷ []) ∷ (false ∷ false ∷ false ∷ false ∷ []) ∷ (false ∷ false ∷ false ∷ true ∷ []) ∷ (false ∷ false ∷ false ∷ false ∷ []) ∷ (false ∷ false ∷ false ∷ true ∷ []) ∷ []
unfolding turn
level_meets = refl
