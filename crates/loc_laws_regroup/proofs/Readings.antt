-- What a geometry that was read is made of: rings that are closed, with all their points on the grid.
use Rattle.std.proofs.Common.{◌≡◌, ℕ, zero, suc, ◌+◌, ◌-◌, ◌^◌, ◌≤◌, Bool, true, false, not, List, [], ◌∷◌, length, map, flat_map, Option, Some, None, Ok, pos, neg_ℤ, refl, sym, ◌∙◌, ap, subst, arith}
use Rattle.std.specs.Prelude.{nat_lt, if◌then◌else◌, option_map, slice_get, slice_index_or}
use Rattle.std.specs.List.{AllByRecursion}
use Rattle.std.proofs.{lemmas.Bool.leb-true, lemmas.Bool.ltb-false, lemmas.Int.ints, lemmas.Option.slice_get-get_or}
use Rattle.loc_laws_order.proofs.Sides.{same_point-true}
use Rattle.loc_spec_plane.specs.Points.{IsGridPoint, OnGrid, Point, same_point}
use Rattle.loc_spec_plane.specs.Rings.{Ring}
use Rattle.loc_spec_text.specs.declared.TextFault.{TextFault}
use Rattle.loc_spec_text.specs.declared.TextFault.TheVariants.{OffGrid, Range, RingOpen, RingShort}
use Rattle.loc_spec_text.specs.Bytes.{err_or, first_fault, ok_unless, or_else, Text}
use Rattle.loc_spec_text.specs.Geometry.{numbers, PointText, Polygon, WidePoint}
use Rattle.loc_spec_text.specs.Number.{grid_value, is_in_range, is_negative, is_on_grid, magnitude}
use Rattle.loc_spec_text.specs.Reader.{geometry_of as tree_read, wide_geometry_of}
use Rattle.loc_spec_text.specs.Reading.{all_numbers, all_rings, number_fault, Polygons, position, positions, reading, reading_of, ring_fault, value_fault, word_fault}
use Rattle.loc_rings.specs.Values.{IsRing}
use Rattle.loc_laws_regroup.proofs.Lists.{all_both, all_map, all_to, flat_each}

-- a ring that was read
pub record IsReadRing (r : Ring) : Type 0 where
  pub ring : IsRing r
  pub on_grid : AllByRecursion IsGridPoint r

-- ---- numbers
small_on : (negative : Bool) (m : ℕ) → m ≤ 10 ^ 18 → OnGrid (if negative then neg_ℤ (pos m) else pos m)
small_on true zero few = (omega (arith, ints), omega (arith, ints))
small_on true (suc m) few = (omega (arith, ints, few), omega (arith, ints))
small_on false m few = (omega (arith, ints), omega (arith, ints, few))

in_range_by : (scale : ℕ) (text : Text) (on within : Bool) → is_in_range scale text ≡ within
    → (if not on then Some OffGrid else if not within then Some Range else None) ≡ None → magnitude scale text ≤ 10 ^ 18
in_range_by scale text false within is none = absurd (cc)
in_range_by scale text true false is none = absurd (cc)
in_range_by scale text true true is none = leb-true (magnitude scale text) (10 ^ 18) is

number_on : (scale : ℕ) (text : Text) → number_fault scale text ≡ None → OnGrid (grid_value scale text)
number_on scale text none = small_on (is_negative text) (magnitude scale text) (in_range_by scale text (is_on_grid scale text) (is_in_range scale text) refl none)

point_on : (scale : ℕ) (p : PointText) → AllByRecursion (λ text. number_fault scale text ≡ None) (numbers p) → IsGridPoint (position scale p)
point_on scale p none = (number_on scale p.0 none.0, number_on scale p.1 none.1.0)

-- ---- rings
ring_by : (p : Point) (ps : Ring) (short same : Bool) → nat_lt (length (p ∷ ps)) 4 ≡ short → same_point p (slice_index_or (p ∷ ps) (length ps) p) ≡ same
    → (if short then Some RingShort else if not same then Some RingOpen else None) ≡ None → IsRing (p ∷ ps)
ring_by p ps true same is_short is_same none = absurd (cc)
ring_by p ps false false is_short is_same none = absurd (cc)
ring_by p ps false true is_short is_same none =
    let long = ltb-false (length (p ∷ ps)) 4 is_short in
    let place : length ps ≡ length (p ∷ ps) - 1 = omega arith in
    record {
      long = long;
      closed = ap Some (same_point-true p (slice_index_or (p ∷ ps) (length ps) p) is_same)
          ∙ (sym (slice_get-get_or (p ∷ ps) (length ps) p (omega arith)) ∙ ap (slice_get (p ∷ ps)) place);
    }

ring_is : (r : Ring) → ring_fault r ≡ None → IsRing r
ring_is [] none = absurd (cc)
ring_is (p ∷ ps) none = ring_by p ps (nat_lt (length (p ∷ ps)) 4) (same_point p (slice_index_or (p ∷ ps) (length ps) p)) refl refl none

-- ---- no fault at all
none_of : {X : Type 0} (fault : X → Option (ℕ → TextFault)) (n : ℕ) (xs : List X) → first_fault fault n xs ≡ None → AllByRecursion (λ x. fault x ≡ None) xs
none_of fault n [] none = tt
none_of fault n (x ∷ xs) none = by (fault x) refl (none_of fault (n + 1) xs) none
  where
    by : (o : Option (ℕ → TextFault)) → fault x ≡ o → (first_fault fault (n + 1) xs ≡ None → AllByRecursion (λ x. fault x ≡ None) xs) → or_else (option_map (λ f. f n) o) (first_fault fault (n + 1) xs) ≡ None → AllByRecursion (λ x. fault x ≡ None) (x ∷ xs)
    by None is rest none = (is, rest none)
    by (Some f) is rest none = absurd (cc)

both_none : {X : Type 0} (a b : Option X) → or_else a b ≡ None → (a ≡ None) × (b ≡ None)
both_none None b none = (refl, none)
both_none (Some x) b none = absurd (cc)

-- all values of a tree whose numbers and rings have no fault
values_good : (scale : ℕ) (tree : List (Polygon PointText)) → value_fault scale tree ≡ None → AllByRecursion (AllByRecursion IsReadRing) (positions scale tree)
values_good scale tree none =
    let parts = both_none (first_fault (number_fault scale) 1 (all_numbers tree)) (first_fault ring_fault 1 (all_rings (positions scale tree))) none in
    let ring_texts = flat_each (λ text. number_fault scale text ≡ None) (λ r. flat_map numbers r) (all_rings tree) (none_of (number_fault scale) 1 (all_numbers tree) parts.0) in
    let points = all_to (λ r. AllByRecursion (λ text. number_fault scale text ≡ None) (flat_map numbers r)) (AllByRecursion (λ p. AllByRecursion (λ text. number_fault scale text ≡ None) (numbers p)))
    (λ r each. flat_each (λ text. number_fault scale text ≡ None) numbers r each) (all_rings tree) ring_texts in
    let grid = all_map (AllByRecursion (AllByRecursion (λ p. AllByRecursion (λ text. number_fault scale text ≡ None) (numbers p)))) (AllByRecursion (AllByRecursion IsGridPoint)) (map (map (position scale)))
    (λ rings each. all_map (AllByRecursion (λ p. AllByRecursion (λ text. number_fault scale text ≡ None) (numbers p))) (AllByRecursion IsGridPoint) (map (position scale))
    (λ r one. all_map (λ p. AllByRecursion (λ text. number_fault scale text ≡ None) (numbers p)) IsGridPoint (position scale) (point_on scale) r one) rings each) tree
    (flat_each (AllByRecursion (λ p. AllByRecursion (λ text. number_fault scale text ≡ None) (numbers p))) (λ rings. rings) tree points) in
    let closed = flat_each (λ r. ring_fault r ≡ None) (λ rings. rings) (positions scale tree) (none_of ring_fault 1 (all_rings (positions scale tree)) parts.1) in
    all_both (AllByRecursion (AllByRecursion IsGridPoint)) (AllByRecursion (λ r. ring_fault r ≡ None)) (AllByRecursion IsReadRing)
    (λ rings on none. all_both (AllByRecursion IsGridPoint) (λ r. ring_fault r ≡ None) IsReadRing (λ r one right. record { ring = ring_is r right; on_grid = one }) rings on none) (positions scale tree) grid closed

value_good : (scale : ℕ) (tree : List (Polygon PointText)) (polygons : Polygons) (fault : Option TextFault) → value_fault scale tree ≡ fault → ok_unless fault (positions scale tree) ≡ Ok polygons → AllByRecursion (AllByRecursion IsReadRing) polygons
value_good scale tree polygons (Some f) is read = absurd (cc)
value_good scale tree polygons None is read = let same : positions scale tree ≡ polygons = cc in subst (AllByRecursion (AllByRecursion IsReadRing)) same (values_good scale tree is)

by_tree : (scale : ℕ) (polygons : Polygons) (tree : Option (List (Polygon PointText))) (wide : Option (List (Polygon WidePoint))) → reading_of scale tree wide ≡ Ok polygons → AllByRecursion (AllByRecursion IsReadRing) polygons
by_tree scale polygons (Some tree) wide read = value_good scale tree polygons (value_fault scale tree) refl read
by_tree scale polygons None (Some tree) read = absurd (cc)
by_tree scale polygons None None read = absurd (cc)

by_words : (scale : ℕ) (polygons : Polygons) (fault : Option TextFault) (tree : Option (List (Polygon PointText))) (wide : Option (List (Polygon WidePoint))) → err_or fault (reading_of scale tree wide) ≡ Ok polygons → AllByRecursion (AllByRecursion IsReadRing) polygons
by_words scale polygons (Some f) tree wide read = absurd (cc)
by_words scale polygons None tree wide read = by_tree scale polygons tree wide read

pub reading_good : (scale : ℕ) (text : Text) (polygons : Polygons) → reading scale text ≡ Ok polygons → AllByRecursion (AllByRecursion IsReadRing) polygons
unfolding reading
reading_good scale text polygons read = by_words scale polygons (word_fault text) (tree_read text) (wide_geometry_of text) read
