-- What a written geometry reads as: no word, number or ring of it has a fault, and its values are the points that were written.
use Rattle.std.proofs.Common.{◌≡◌, ◌≢◌, ℕ, ◌+◌, false, List, [], ◌∷◌, ◌++◌, length, map, flat_map, length-append, Option, None, refl, ap₂, arith}
use Rattle.std.specs.{Prelude.nat_lt, Prelude.slice_index_or, List.AllByRecursion}
use Rattle.std.proofs.lemmas.Bool.{le-ltb}
use Rattle.loc_laws_order.proofs.Sides.{same_point_refl}
use Rattle.loc_spec_plane.specs.{Points.IsGridPoint, Points.Point, Points.point_at, Rings.Ring, Rings.Rings}
use Rattle.loc_spec_text.specs.{declared.TextFault.TextFault, Bytes.first_fault, Geometry.numbers}
use Rattle.loc_spec_text.specs.Reading.{all_numbers, all_rings, number_fault, position, positions, reading, ring_fault, word_fault}
use Rattle.loc_spec_text.proofs.ReaderLaws.{IsTree-geometry}
use Rattle.loc_spec_groups.specs.Groups.{closed_ring, Group}
use Rattle.loc_laws_grouptext.specs.Laws.{geometry_of}
use Rattle.loc_laws_regroup.specs.Laws.{ArePolygons, closed_polygons, GeometryReads, IsOpenRing}
use Rattle.loc_laws_regroup.proofs.Grids.{grid_text_reads}
use Rattle.loc_laws_regroup.proofs.Lists.{all_append, all_flat, all_map, map_back, map_twice}
use Rattle.loc_laws_regroup.proofs.Trees.{geometry_tree, polygon_texts, ring_texts, texts_of, tree_of}

-- each ring of the polygons, closed, has all its points on the grid
ring_on : (r : Ring) → IsOpenRing r → AllByRecursion IsGridPoint (closed_ring r)
ring_on [] good = tt
ring_on (p ∷ ps) good = all_append IsGridPoint (p ∷ ps) (p ∷ []) good.on_grid (good.on_grid.0, tt)

-- ---- values
position_back : (scale : ℕ) (p : Point) → IsGridPoint p → position scale (texts_of scale p) ≡ p
position_back scale p on = ap₂ point_at (grid_text_reads scale p.x on.0).reads (grid_text_reads scale p.y on.1).reads

ring_back : (scale : ℕ) (r : Ring) → IsOpenRing r → map (position scale) (ring_texts scale r) ≡ closed_ring r
ring_back scale r good = map_back IsGridPoint (position scale) (texts_of scale) (position_back scale) (closed_ring r) (ring_on r good)

values_are : (scale : ℕ) (polygons : List Rings) → ArePolygons polygons → positions scale (tree_of scale polygons) ≡ closed_polygons polygons
values_are scale polygons good = map_twice (λ q. (q ≢ []) × AllByRecursion IsOpenRing q) (map (map (position scale))) (polygon_texts scale) (map closed_ring)
    (λ q each. map_twice IsOpenRing (map (position scale)) (ring_texts scale) closed_ring (ring_back scale) q each.1) polygons good

-- ---- faults
no_fault : {X : Type 0} (fault : X → Option (ℕ → TextFault)) (n : ℕ) (xs : List X) → AllByRecursion (λ x. fault x ≡ None) xs → first_fault fault n xs ≡ None
no_fault fault n [] none = refl
no_fault fault n (x ∷ xs) none = rw none.0 (no_fault fault (n + 1) xs none.1)

number_right : (scale : ℕ) (p : Point) → IsGridPoint p → AllByRecursion (λ text. number_fault scale text ≡ None) (numbers (texts_of scale p))
number_right scale p on =
    let x = grid_text_reads scale p.x on.0 in
    let y = grid_text_reads scale p.y on.1 in
    (rw (x.on_grid, x.in_range) refl, (rw (y.on_grid, y.in_range) refl, tt))

numbers_right : (scale : ℕ) (polygons : List Rings) → ArePolygons polygons → AllByRecursion (λ text. number_fault scale text ≡ None) (all_numbers (tree_of scale polygons))
numbers_right scale polygons good =
    let tree = all_map (λ q. (q ≢ []) × AllByRecursion IsOpenRing q) (AllByRecursion (AllByRecursion (λ p. AllByRecursion (λ text. number_fault scale text ≡ None) (numbers p)))) (polygon_texts scale)
    (λ q each. all_map IsOpenRing (AllByRecursion (λ p. AllByRecursion (λ text. number_fault scale text ≡ None) (numbers p))) (ring_texts scale)
    (λ r one. all_map IsGridPoint (λ p. AllByRecursion (λ text. number_fault scale text ≡ None) (numbers p)) (texts_of scale) (number_right scale) (closed_ring r) (ring_on r one)) q each.1) polygons good in
    let rings = all_flat (AllByRecursion (AllByRecursion (λ p. AllByRecursion (λ text. number_fault scale text ≡ None) (numbers p)))) (AllByRecursion (λ p. AllByRecursion (λ text. number_fault scale text ≡ None) (numbers p))) (λ q. q) (λ q each. each) (tree_of scale polygons) tree in
    all_flat (AllByRecursion (λ p. AllByRecursion (λ text. number_fault scale text ≡ None) (numbers p))) (λ text. number_fault scale text ≡ None) (λ r. flat_map numbers r)
    (λ r each. all_flat (λ p. AllByRecursion (λ text. number_fault scale text ≡ None) (numbers p)) (λ text. number_fault scale text ≡ None) numbers (λ p fine. fine) r each) (all_rings (tree_of scale polygons)) rings

last_is : (q p d : Point) (ps : Ring) → slice_index_or (q ∷ (ps ++ (p ∷ []))) (length (ps ++ (p ∷ []))) d ≡ p
last_is q p d [] = refl
last_is q p d (r ∷ ps) = last_is r p d ps

ring_right : (r : Ring) → IsOpenRing r → ring_fault (closed_ring r) ≡ None
ring_right [] good = absurd (omega (arith, good.long))
ring_right (p ∷ ps) good =
    let long : nat_lt (length (p ∷ (ps ++ (p ∷ [])))) 4 ≡ false = le-ltb (length (p ∷ (ps ++ (p ∷ [])))) 4 (omega (arith, good.long, length-append ps (p ∷ []))) in
    rw (long, last_is p p p ps, same_point_refl p) refl

rings_right : (polygons : List Rings) → ArePolygons polygons → AllByRecursion (λ r. ring_fault r ≡ None) (all_rings (closed_polygons polygons))
rings_right polygons good = all_flat (AllByRecursion (λ r. ring_fault r ≡ None)) (λ r. ring_fault r ≡ None) (λ q. q) (λ q each. each) (closed_polygons polygons)
    (all_map (λ q. (q ≢ []) × AllByRecursion IsOpenRing q) (AllByRecursion (λ r. ring_fault r ≡ None)) (map closed_ring)
    (λ q each. all_map IsOpenRing (λ r. ring_fault r ≡ None) closed_ring ring_right q each.1) polygons good)

words_right : (scale : ℕ) (group : Group) → word_fault (geometry_of scale group) ≡ None
words_right scale group = by group.polygons
  where
    by : (polygons : List Rings) → word_fault (geometry_of scale (record { id = []; polygons = polygons })) ≡ None
    by [] = refl
    by (rings ∷ polygons) = refl

pub geometry_reads : GeometryReads
unfolding reading
geometry_reads scale group good =
    let tree = IsTree-geometry (geometry_of scale group) (tree_of scale group.polygons) (geometry_tree scale group.polygons good) in
    let values = values_are scale group.polygons good in
    let first = no_fault (number_fault scale) 1 (all_numbers (tree_of scale group.polygons)) (numbers_right scale group.polygons good) in
    let second = no_fault ring_fault 1 (all_rings (closed_polygons group.polygons)) (rings_right group.polygons good) in
    rw (words_right scale group, tree) (rw (first, values) (rw second refl))
