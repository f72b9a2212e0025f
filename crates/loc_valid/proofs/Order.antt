-- The breaches in their order: where those before do not apply, the first that does is that of the feature.
use Rattle.std.proofs.Common.{◌≡◌, ℕ, ◌+◌, List, length, refl, ◌∙◌, ap}
use Rattle.std.specs.Prelude.{Option, Some, None, find, option_map}
use Rattle.loc_spec_plane.specs.{Points.Edge, Rings.Rings}
use Rattle.loc_spec_plane.specs.Tables.{Table, corner, corner_numbers, edge, edge_numbers}
use Rattle.loc_spec_text.specs.Bytes.{or_else}
use Rattle.loc_spec_valid.specs.Breaches.{Breach, HasNoCrossing, HasSegments, IsBreachOf, feature_rings, first_pair, is_nested, is_outside, is_overlap, is_parted, is_pinch, is_twice, later_breach, nested, outside, overlap, parts, pinch, polygon_numbers, ring_numbers, ring_table, twice}
use Rattle.loc_laws_valid.proofs.Least.{first_none, no_pair, none_passes}
use Rattle.loc_faces.specs.Subdivision.{face_at, next_at}
use Rattle.loc_valid.specs.Judged.{IsUnpinched, parts_at}
use Rattle.loc_valid.proofs.Within.{none_pairs, skip, stop}

module _ (polygons : List Rings) where
  abbrev pub t : Table
  t = ring_table polygons

  abbrev pub twices : Option ℕ
  twices = find (is_twice polygons t) (edge_numbers t)

  abbrev pub pinches : Option (ℕ × ℕ)
  pinches = first_pair (is_pinch polygons t) (ring_numbers polygons) (corner_numbers t)

  abbrev pub outsides : Option ℕ
  outsides = find (is_outside polygons t) (ring_numbers polygons)

  abbrev pub nests : Option (ℕ × ℕ)
  nests = first_pair (is_nested polygons t) (ring_numbers polygons) (ring_numbers polygons)

  abbrev pub parteds : Option ℕ
  parteds = find (is_parted next_at face_at polygons) (polygon_numbers polygons)

  abbrev pub overlaps : Option (ℕ × ℕ)
  overlaps = first_pair (is_overlap polygons t) (polygon_numbers polygons) (polygon_numbers polygons)

  abbrev told_twice : ℕ → Breach
  told_twice e = twice (edge t e)

  abbrev told_pinch : ℕ × ℕ → Breach
  told_pinch pair = pinch (pair.0 + 1) (corner t pair.1)

  abbrev told_outside : ℕ → Breach
  told_outside r = outside (r + 1)

  abbrev told_nested : ℕ × ℕ → Breach
  told_nested pair = nested (pair.0 + 1) (pair.1 + 1)

  abbrev told_parts : ℕ → Breach
  told_parts n = parts (n + 1) (parts_at polygons n)

  abbrev told_overlap : ℕ × ℕ → Breach
  told_overlap pair = overlap (pair.0 + 1) (pair.1 + 1)

  -- what is left behind each breach
  abbrev after_parts : Option Breach
  after_parts = option_map told_overlap overlaps

  abbrev after_nested : Option Breach
  after_nested = or_else (option_map told_parts parteds) after_parts

  abbrev after_outside : Option Breach
  after_outside = or_else (option_map told_nested nests) after_nested

  abbrev after_pinch : Option Breach
  after_pinch = or_else (option_map told_outside outsides) after_outside

  abbrev after_twice : Option Breach
  after_twice = or_else (option_map told_pinch pinches) after_pinch

  abbrev first : Option Breach
  first = later_breach next_at face_at polygons t

  pub no_twice : twices ≡ None → first ≡ after_twice
  no_twice none = skip (option_map told_twice twices) after_twice (ap (option_map told_twice) none)

  pub no_pinch : pinches ≡ None → after_twice ≡ after_pinch
  no_pinch none = skip (option_map told_pinch pinches) after_pinch (ap (option_map told_pinch) none)

  pub no_outside : outsides ≡ None → after_pinch ≡ after_outside
  no_outside none = skip (option_map told_outside outsides) after_outside (ap (option_map told_outside) none)

  pub no_nested : nests ≡ None → after_outside ≡ after_nested
  no_nested none = skip (option_map told_nested nests) after_nested (ap (option_map told_nested) none)

  pub no_parts : parteds ≡ None → after_nested ≡ after_parts
  no_parts none = skip (option_map told_parts parteds) after_parts (ap (option_map told_parts) none)

  -- the first two
  pub twice_first : HasSegments polygons → HasNoCrossing polygons → (e : Edge) → option_map (edge t) twices ≡ Some e → IsBreachOf next_at face_at polygons (Some (twice e))
  twice_first segments uncrossed e found = (segments, uncrossed, stop (option_map told_twice twices) after_twice (twice e) (by_edge twices ∙ ap (option_map (λ d. twice d)) found))
    where
      by_edge : (o : Option ℕ) → option_map told_twice o ≡ option_map (λ d. twice d) (option_map (edge t) o)
      by_edge None = refl
      by_edge (Some k) = refl

  pub pinch_first : HasSegments polygons → HasNoCrossing polygons → twices ≡ None → (pair : ℕ × ℕ) → pinches ≡ Some pair → IsBreachOf next_at face_at polygons (Some (told_pinch pair))
  pinch_first segments uncrossed none pair found = (segments, uncrossed, no_twice none ∙ stop (option_map told_pinch pinches) after_pinch (told_pinch pair) (ap (option_map told_pinch) found))

  -- where no edge is found that is twice, none is
  pub none_twice : option_map (edge t) twices ≡ None → twices ≡ None
  none_twice none = by_answer twices none
    where
      some_none : {X : Type 0} {x : X} → Some x ≡ None → ⊥
      some_none e = cc

      by_answer : (o : Option ℕ) → option_map (edge t) o ≡ None → o ≡ None
      by_answer None none = refl
      by_answer (Some k) none = absurd (some_none none)

  pub unpinched : HasSegments polygons → HasNoCrossing polygons → twices ≡ None → pinches ≡ None → IsUnpinched polygons
  unpinched segments uncrossed once none = record {
    segments = segments;
    uncrossed = uncrossed;
    once = none_passes (is_twice polygons t) (length t.ends) once;
    unpinched = none_pairs (is_pinch polygons t) (length t.corners) (length (feature_rings polygons)) none;
  }

  module _ (is : IsUnpinched polygons) where
    to_pinch : first ≡ after_pinch
    to_pinch = no_twice (first_none (is_twice polygons t) (length t.ends) is.once) ∙ no_pinch (no_pair (is_pinch polygons t) (length t.corners) (length (feature_rings polygons)) is.unpinched)

    pub outside_first : (r : ℕ) → outsides ≡ Some r → IsBreachOf next_at face_at polygons (Some (told_outside r))
    outside_first r found = (is.segments, is.uncrossed, to_pinch ∙ stop (option_map told_outside outsides) after_outside (told_outside r) (ap (option_map told_outside) found))

    pub nested_first : outsides ≡ None → (pair : ℕ × ℕ) → nests ≡ Some pair → IsBreachOf next_at face_at polygons (Some (told_nested pair))
    nested_first inside pair found = (is.segments, is.uncrossed, to_pinch ∙ (no_outside inside ∙ stop (option_map told_nested nests) after_nested (told_nested pair) (ap (option_map told_nested) found)))

    pub parts_first : outsides ≡ None → nests ≡ None → (n : ℕ) → parteds ≡ Some n → IsBreachOf next_at face_at polygons (Some (told_parts n))
    parts_first inside free n found = (is.segments, is.uncrossed, to_pinch ∙ (no_outside inside ∙ (no_nested free ∙ stop (option_map told_parts parteds) after_parts (told_parts n) (ap (option_map told_parts) found))))

    pub overlap_first : outsides ≡ None → nests ≡ None → parteds ≡ None → (pair : ℕ × ℕ) → overlaps ≡ Some pair → IsBreachOf next_at face_at polygons (Some (told_overlap pair))
    overlap_first inside free whole pair found = (is.segments, is.uncrossed, to_pinch ∙ (no_outside inside ∙ (no_nested free ∙ (no_parts whole ∙ ap (option_map told_overlap) found))))

    pub none_first : outsides ≡ None → nests ≡ None → parteds ≡ None → overlaps ≡ None → IsBreachOf next_at face_at polygons None
    none_first inside free whole none = (is.segments, is.uncrossed, to_pinch ∙ (no_outside inside ∙ (no_nested free ∙ (no_parts whole ∙ ap (option_map told_overlap) none))))
