-- Worked rows: the first breach of small features, computed. The next and the face of each half-edge are listed where parts are counted; that the nexts are those of the
-- polygon's table is checked.
use Rattle.std.proofs.Common.{◌≡◌, ℕ, ◌<◌, Bool, true, false, List, [], ◌∷◌, refl, subst, get_or, length, arith}
use Rattle.std.specs.{Prelude.codes, Prelude.Some, Prelude.None, Fmt.digits}
use Rattle.std.proofs.lemmas.Bool.{agree_below, agree_below_at, not_from_false}
use Rattle.loc_spec_text.specs.Points.{ended}
use Rattle.loc_spec_plane.specs.{Points.turn, Rings.Rings, Tables.Table, Tables.table_by, HalfEdges.IsNextOfAll}
use Rattle.loc_spec_plane.proofs.{Rows.at, Rows.rectangle, RowsFaces.next_by_check}
use Rattle.loc_spec_valid.specs.Breaches.{point_ring, crossing, twice, pinch, outside, nested, parts, overlap, ring_table, polygon_table, is_crossing, HasNoCrossing, IsBreachOf}
use Rattle.loc_spec_valid.specs.BreachTexts.{breach_line}

-- no edge below n crosses edge a
abbrev pub quiet_row : List Rings → ℕ → ℕ → Bool
quiet_row polygons n a = agree_below (is_crossing (ring_table polygons) a) (λ _. false) n

-- no two edges cross, by a test of all pairs
none_crosses : (polygons : List Rings) (n : ℕ) → length (ring_table polygons).ends ≡ n → agree_below (quiet_row polygons n) (λ _. true) n ≡ true → HasNoCrossing polygons
none_crosses polygons n is all a b la lb =
    let fits_a : a < n = subst (λ k. a < k) is la in
    let fits_b : b < n = subst (λ k. b < k) is lb in
    not_from_false (is_crossing (ring_table polygons) a b) (agree_below_at (is_crossing (ring_table polygons) a) (λ _. false) n b (agree_below_at (quiet_row polygons n) (λ _. true) n a all fits_a) fits_b)

-- no next and no face is asked for
abbrev pub unasked : Table → ℕ → ℕ
unasked t h = 0

abbrev pub square_next : Table → ℕ → ℕ
square_next t h = get_or (4 ∷ 2 ∷ 6 ∷ 0 ∷ 7 ∷ 1 ∷ 5 ∷ 3 ∷ []) h 0

abbrev pub square_face : Table → ℕ → ℕ
square_face t h = get_or (0 ∷ 1 ∷ 1 ∷ 0 ∷ 0 ∷ 1 ∷ 1 ∷ 0 ∷ []) h 0

-- a square
abbrev pub square : List Rings
square = (rectangle 0 0 4 4 ∷ []) ∷ []

pub square_is : IsBreachOf square_next square_face square None
unfolding table_by turn ring_table polygon_table
square_is = (refl, none_crosses square 4 refl refl, refl)

pub square_line : breach_line 0 (codes "1") None ≡ ended (codes "\"1\" valid")
unfolding digits
square_line = refl

-- two edges that cross
abbrev pub bow : List Rings
bow = ((at 0 0 ∷ at 4 4 ∷ at 4 0 ∷ at 0 4 ∷ at 0 0 ∷ []) ∷ []) ∷ []

pub bow_is : IsBreachOf unasked unasked bow (Some (crossing (record { lo = at 0 0; hi = at 4 4 }) (record { lo = at 0 4; hi = at 4 0 })))
unfolding table_by turn ring_table polygon_table
bow_is = (refl, (1, 2, omega arith, omega arith, refl, refl, refl))

pub bow_line : breach_line 0 (codes "1") (Some (crossing (record { lo = at 0 0; hi = at 4 4 }) (record { lo = at 0 4; hi = at 4 0 }))) ≡ ended (codes "\"1\" edges 0 0, 4 4 and 0 4, 4 0 cross")
unfolding digits
bow_line = refl

-- two squares with a common side
abbrev pub shared_side : List Rings
shared_side = (rectangle 0 0 2 2 ∷ []) ∷ (rectangle 2 0 4 2 ∷ []) ∷ []

pub shared_side_is : IsBreachOf unasked unasked shared_side (Some (twice (record { lo = at 2 0; hi = at 2 2 })))
unfolding table_by turn ring_table polygon_table
shared_side_is = (refl, none_crosses shared_side 7 refl refl, refl)

pub shared_side_line : breach_line 0 (codes "1") (Some (twice (record { lo = at 2 0; hi = at 2 2 }))) ≡ ended (codes "\"1\" edge 2 0, 2 2 twice")
unfolding digits
shared_side_line = refl

-- a ring that is a point
abbrev pub dot : List Rings
dot = ((at 0 0 ∷ at 0 0 ∷ at 0 0 ∷ at 0 0 ∷ []) ∷ []) ∷ []

pub dot_is : IsBreachOf unasked unasked dot (Some (point_ring 1))
unfolding table_by turn ring_table polygon_table
dot_is = refl

pub dot_line : breach_line 0 (codes "1") (Some (point_ring 1)) ≡ ended (codes "\"1\" ring 1 is a point")
unfolding digits
dot_line = refl

-- a ring that passes one corner twice
abbrev pub pinched : List Rings
pinched = ((at 0 0 ∷ at 2 2 ∷ at 4 0 ∷ at 4 4 ∷ at 2 2 ∷ at 0 4 ∷ at 0 0 ∷ []) ∷ []) ∷ []

pub pinched_is : IsBreachOf unasked unasked pinched (Some (pinch 1 (at 2 2)))
unfolding table_by turn ring_table polygon_table
pinched_is = (refl, none_crosses pinched 6 refl refl, refl)

pub pinched_line : breach_line 0 (codes "1") (Some (pinch 1 (at 2 2))) ≡ ended (codes "\"1\" ring 1 twice at 2 2")
unfolding digits
pinched_line = refl

-- a hole beside its exterior
abbrev pub hole_beside : List Rings
hole_beside = (rectangle 0 0 4 4 ∷ (at 5 0 ∷ at 6 0 ∷ at 6 1 ∷ at 5 0 ∷ []) ∷ []) ∷ []

pub hole_beside_is : IsBreachOf unasked unasked hole_beside (Some (outside 2))
unfolding table_by turn ring_table polygon_table
hole_beside_is = (refl, none_crosses hole_beside 7 refl refl, refl)

pub hole_beside_line : breach_line 0 (codes "1") (Some (outside 2)) ≡ ended (codes "\"1\" ring 2 outside")
unfolding digits
hole_beside_line = refl

-- a hole in another
abbrev pub hole_in_hole : List Rings
hole_in_hole = (rectangle 0 0 9 9 ∷ rectangle 1 1 8 8 ∷ rectangle 2 2 3 3 ∷ []) ∷ []

pub hole_in_hole_is : IsBreachOf unasked unasked hole_in_hole (Some (nested 3 2))
unfolding table_by turn ring_table polygon_table
hole_in_hole_is = (refl, none_crosses hole_in_hole 12 refl refl, refl)

pub hole_in_hole_line : breach_line 0 (codes "1") (Some (nested 3 2)) ≡ ended (codes "\"1\" ring 3 in ring 2")
unfolding digits
hole_in_hole_line = refl

-- a hole that meets each side of its exterior
abbrev pub four_parts : List Rings
four_parts = (rectangle 0 0 4 4 ∷ (at 2 0 ∷ at 4 2 ∷ at 2 4 ∷ at 0 2 ∷ at 2 0 ∷ []) ∷ []) ∷ []

abbrev pub four_parts_next : Table → ℕ → ℕ
four_parts_next t h = get_or (4 ∷ 2 ∷ 7 ∷ 0 ∷ 10 ∷ 8 ∷ 14 ∷ 1 ∷ 11 ∷ 6 ∷ 18 ∷ 5 ∷ 20 ∷ 3 ∷ 17 ∷ 12 ∷ 22 ∷ 9 ∷ 23 ∷ 16 ∷ 15 ∷ 13 ∷ 19 ∷ 21 ∷ []) h 0

abbrev pub four_parts_face : Table → ℕ → ℕ
four_parts_face t h = get_or (0 ∷ 1 ∷ 1 ∷ 0 ∷ 0 ∷ 2 ∷ 3 ∷ 1 ∷ 2 ∷ 3 ∷ 0 ∷ 2 ∷ 4 ∷ 0 ∷ 3 ∷ 4 ∷ 5 ∷ 3 ∷ 0 ∷ 5 ∷ 4 ∷ 0 ∷ 5 ∷ 0 ∷ []) h 0

pub four_parts_is : IsBreachOf four_parts_next four_parts_face four_parts (Some (parts 1 4))
unfolding table_by turn ring_table polygon_table
four_parts_is = (refl, none_crosses four_parts 12 refl refl, refl)

pub four_parts_line : breach_line 0 (codes "1") (Some (parts 1 4)) ≡ ended (codes "\"1\" polygon 1 in 4 parts")
unfolding digits
four_parts_line = refl

-- a polygon in another
abbrev pub inner_square : List Rings
inner_square = (rectangle 0 0 4 4 ∷ []) ∷ (rectangle 1 1 2 2 ∷ []) ∷ []

pub inner_square_is : IsBreachOf square_next square_face inner_square (Some (overlap 2 1))
unfolding table_by turn ring_table polygon_table
inner_square_is = (refl, none_crosses inner_square 8 refl refl, refl)

pub inner_square_line : breach_line 0 (codes "1") (Some (overlap 2 1)) ≡ ended (codes "\"1\" polygon 2 in polygon 1")
unfolding digits
inner_square_line = refl

-- the listed nexts are those of the tables
abbrev pub square_rounds : ℕ → List ℕ
square_rounds c = get_or ((1 ∷ 0 ∷ []) ∷ (2 ∷ 0 ∷ []) ∷ (3 ∷ 1 ∷ []) ∷ (2 ∷ 3 ∷ []) ∷ []) c []

pub square_is_next : IsNextOfAll (polygon_table square 0) (square_next (polygon_table square 0))
unfolding table_by turn polygon_table
square_is_next = next_by_check (polygon_table square 0) square_rounds (square_next (polygon_table square 0)) refl

abbrev pub four_rounds : ℕ → List ℕ
four_rounds c = get_or ((1 ∷ 0 ∷ []) ∷ (3 ∷ 4 ∷ 2 ∷ 0 ∷ []) ∷ (5 ∷ 2 ∷ []) ∷ (6 ∷ 7 ∷ 3 ∷ 1 ∷ []) ∷ (8 ∷ 9 ∷ 5 ∷ 4 ∷ []) ∷ (10 ∷ 6 ∷ []) ∷ (11 ∷ 8 ∷ 7 ∷ 10 ∷ []) ∷ (9 ∷ 11 ∷ []) ∷ []) c []

pub four_is_next : IsNextOfAll (polygon_table four_parts 0) (four_parts_next (polygon_table four_parts 0))
unfolding table_by turn polygon_table
four_is_next = next_by_check (polygon_table four_parts 0) four_rounds (four_parts_next (polygon_table four_parts 0)) refl
