-- What the least pairs say of the breaches of a feature, what holds where none is found, and what a breach that is found excludes.
use Rattle.std.proofs.Common.{◌≡◌, ℕ, ◌<◌, ◌≤◌, true, List, [], ◌∷◌, length, get_or, refl, sym, ◌∙◌, ap, ap₂, subst, arith}
use Rattle.std.specs.Prelude.{Option, Some, None, find, option_map}
use Rattle.std.proofs.lemmas.Bool.{both_ways, not-true}
use Rattle.loc_spec_plane.specs.{Points.Edge, Points.conflict, Rings.Rings}
use Rattle.loc_spec_plane.specs.Tables.{Table, AllEven, NoConflict, edge, piece_count}
use Rattle.loc_spec_plane.specs.Covers.{cover_above, cover_sum, feature_count}
use Rattle.loc_spec_valid.specs.Breaches.{HasNoCrossing, HasSegments, IsBreachOf, crossing, feature_rings, first_pair, is_crossing, is_nested, is_outside, is_overlap, is_pinch, is_twice, polygon_numbers, polygon_table, ring_numbers, ring_table}
use Rattle.loc_laws_valid.specs.Laws.{HasOneRing, NonePinched, NoneTwice, ring_of}
use Rattle.loc_laws_valid.proofs.{Calm.conflicts_cross, Calm.polygons_calm, Fewer.polygon_pieces}
use Rattle.loc_laws_valid.proofs.{Least.first_none, Least.no_pair, Least.none_passes, OneRing.one_ring}
use Rattle.loc_geom.specs.declared.kinds.Meeting.{Meeting}
use Rattle.loc_sweep.specs.Swept.{AreInConflict}
use Rattle.loc_cover.specs.Legends.{FitsTable, IsTrueLegend, LegendRows}
use Rattle.loc_spec_text.specs.Limits.{most_members, most_pieces}
use Rattle.loc_faces.specs.Subdivision.{face_at, next_at}
use Rattle.loc_valid.specs.declared.fault.ValidFault.{ValidFault}
use Rattle.loc_valid.specs.declared.fault.ValidFault.TheVariants.{ManyPieces, ManyCovers, NoMemory}
use Rattle.loc_valid.specs.Hits.{AreHomes, IsLaidOut, IsLeastOf, nested_in, outside_in, overlap_in}
use Rattle.loc_valid.specs.Judged.{HasFewPieces, IsRefusedFeature, IsRefusedLegend, IsUnpinched, parts_at}
use Rattle.loc_valid.proofs.Firsts.{nested_is, outside_is, overlap_is}
use Rattle.loc_valid.proofs.Order.{nests, outsides, overlaps, pinches, twices}
use Rattle.loc_valid.proofs.Within.{none_pairs, none_some, some_is}

-- ---- options
-- what is not some value is none
pub none_of : {X : Type 0} (o : Option X) → ((x : X) → o ≡ Some x → ⊥) → o ≡ None
none_of None off = refl
none_of (Some x) off = absurd (off x refl)

-- ---- by the lists above the edges
module _ (polygons rings : List Rings) (same : rings ≡ polygons) (homes : List ℕ) (t : Table) (is : t ≡ ring_table polygons) (rows : LegendRows) (laid : IsLaidOut polygons homes t rows) where
  -- the same of rings that are those of the feature
  laid_rings : IsLaidOut rings homes t rows
  laid_rings = subst (λ (ps : List Rings). IsLaidOut ps homes t rows) (sym same) laid

  -- what the least pairs of the edges say of the breaches
  pub outside_found : (a : Option (ℕ × ℕ)) → IsLeastOf (λ e. outside_in rings (ring_of rings t e) (cover_above t e)) (length t.ends) a → outsides polygons ≡ option_map (λ (q : ℕ × ℕ). q.0) a
  outside_found a least = sym (ap₂ (λ (ps : List Rings) (s : Table). find (is_outside ps s) (ring_numbers ps)) same is) ∙ outside_is rings t laid_rings.one laid_rings.features a least

  pub nested_found : (a : Option (ℕ × ℕ)) → IsLeastOf (λ e. nested_in rings (ring_of rings t e) (cover_above t e)) (length t.ends) a → nests polygons ≡ a
  nested_found a least = sym (ap₂ (λ (ps : List Rings) (s : Table). first_pair (is_nested ps s) (ring_numbers ps) (ring_numbers ps)) same is) ∙ nested_is rings t laid_rings.one laid_rings.features a least

  pub overlap_found : (a : Option (ℕ × ℕ)) → IsLeastOf (λ e. overlap_in rings (ring_of rings t e) (cover_above t e)) (length t.ends) a → overlaps polygons ≡ a
  overlap_found a least = sym (ap₂ (λ (ps : List Rings) (s : Table). first_pair (is_overlap ps s) (polygon_numbers ps) (polygon_numbers ps)) same is) ∙ overlap_is rings t laid_rings.one laid_rings.features a least

  -- no hole is outside
  pub inside_found : (a : Option (ℕ × ℕ)) → IsLeastOf (λ e. outside_in rings (ring_of rings t e) (cover_above t e)) (length t.ends) a → a ≡ None → outsides polygons ≡ None
  inside_found a least none = outside_found a least ∙ ap (option_map (λ (q : ℕ × ℕ). q.0)) none

  -- the first hole that is outside
  pub outside_at : (a : Option (ℕ × ℕ)) → IsLeastOf (λ e. outside_in rings (ring_of rings t e) (cover_above t e)) (length t.ends) a → (r k : ℕ) → a ≡ Some (r, k) → outsides polygons ≡ Some r
  outside_at a least r k some = outside_found a least ∙ ap (option_map (λ (q : ℕ × ℕ). q.0)) some

-- the ring table of a feature in which no edge is twice, with its legend
pub laid_out : (polygons : List Rings) (homes : List ℕ) (t : Table) (rows : LegendRows) (count : ℕ) → t ≡ ring_table polygons → IsUnpinched polygons → AreHomes polygons homes
    → feature_count t ≤ count → count ≡ length (feature_rings polygons) → length rows.ids ≡ count → FitsTable t rows → IsTrueLegend t rows → IsLaidOut polygons homes t rows
laid_out polygons homes t rows count is free homed few as_many named fits true_rows = record {
  homed = homed;
  one = subst (λ (s : Table). HasOneRing polygons s (ring_of polygons s)) (sym is) (one_ring polygons free.once);
  features = omega (arith, few, as_many);
  named = named ∙ as_many;
  fits = fits;
  is_true = true_rows;
}

-- ---- the polygons alone
-- the pieces of a polygon alone are few
pub few_each : (polygons : List Rings) → HasFewPieces polygons → (n : ℕ) → n < length polygons → piece_count (get_or polygons n [] ∷ []) ≤ most_pieces
few_each polygons few n lt = omega (arith, few, polygon_pieces polygons n lt)

-- no two edges of its table conflict
pub apart_each : (polygons : List Rings) (t : Table) → t ≡ ring_table polygons → AllEven t → IsUnpinched polygons
    → outsides polygons ≡ None → nests polygons ≡ None → (n : ℕ) → n < length polygons → NoConflict (polygon_table polygons n)
apart_each polygons t is even free inside apart = polygons_calm polygons (subst AllEven is even) free.uncrossed free.once free.unpinched
    (none_passes (is_outside polygons (ring_table polygons)) (length (feature_rings polygons)) inside)
    (none_pairs (is_nested polygons (ring_table polygons)) (length (feature_rings polygons)) (length (feature_rings polygons)) apart)

-- where no two edges conflict, none cross
pub uncrossed : (polygons : List Rings) (t : Table) → t ≡ ring_table polygons → NoConflict t → HasNoCrossing polygons
uncrossed polygons t is apart = (conflicts_cross polygons).1 (subst NoConflict is apart)

-- the first polygon that is parted, and its parts
pub parted_at : (polygons : List Rings) (o : Option ℕ) (n count : ℕ) → option_map {U = ℕ × ℕ} (λ m. (m, parts_at polygons m)) o ≡ Some (n, count) → (o ≡ Some n) × (count ≡ parts_at polygons n)
parted_at polygons None n count is = absurd (none_some is)
parted_at polygons (Some m) n count is =
    let same : (m, parts_at polygons m) ≡ (n, count) = some_is is in
    let first = ap (λ (q : ℕ × ℕ). q.0) same in
    (ap (λ (k : ℕ). Some k) first, sym (ap (λ (q : ℕ × ℕ). q.1) same) ∙ ap (parts_at polygons) first)

-- no polygon is parted
pub whole_all : (polygons : List Rings) (o : Option ℕ) → option_map {U = ℕ × ℕ} (λ m. (m, parts_at polygons m)) o ≡ None → o ≡ None
whole_all polygons None is = refl
whole_all polygons (Some m) is = absurd (none_some (sym is))

-- ---- what a breach that is found excludes
-- an edge that is twice
pub not_once : (polygons : List Rings) (e : Edge) → option_map (edge (ring_table polygons)) (twices polygons) ≡ Some e → NoneTwice polygons → ⊥
not_once polygons e found once = none_some (sym (ap (option_map (edge (ring_table polygons))) (first_none (is_twice polygons (ring_table polygons)) (length (ring_table polygons).ends) once)) ∙ found)

-- a pinch
pub not_unpinched : (polygons : List Rings) (q : ℕ × ℕ) → pinches polygons ≡ Some q → NonePinched polygons → ⊥
not_unpinched polygons q found free = none_some (sym (no_pair (is_pinch polygons (ring_table polygons)) (length (ring_table polygons).corners) (length (feature_rings polygons)) free) ∙ found)

-- two edges that conflict
module _ (polygons : List Rings) (t : Table) (is : t ≡ ring_table polygons) (a b : ℕ) (meeting : Meeting) (shown : AreInConflict t a b meeting) where
  -- they cross
  crosses : is_crossing (ring_table polygons) a b ≡ true
  crosses = (conflicts_cross polygons).0 a b shown.in_order (subst (λ (s : Table). b < length s.ends) is shown.in_range) (subst (λ (s : Table). conflict (edge s a) (edge s b) ≡ true) is shown.conflict)

  second_fits : b < length (ring_table polygons).ends
  second_fits = subst (λ (s : Table). b < length s.ends) is shown.in_range

  -- and so are the breach
  pub crossing_first : (first second : Edge) → first ≡ edge t a → second ≡ edge t b → HasSegments polygons → IsBreachOf next_at face_at polygons (Some (crossing first second))
  crossing_first first second is_first is_second segments = (segments, (a, b, omega (arith, shown.in_order, second_fits), second_fits, is_first ∙ ap (λ (s : Table). edge s a) is, is_second ∙ ap (λ (s : Table). edge s b) is, crosses))

  -- some two edges cross
  pub not_uncrossed : HasNoCrossing polygons → ⊥
  not_uncrossed none = both_ways (is_crossing (ring_table polygons) a b) (not-true (is_crossing (ring_table polygons) a b) (none a b (omega (arith, shown.in_order, second_fits)) second_fits)) crosses

-- ---- why a feature is refused
-- by long cover lists, or want of memory
pub refused_by_legend : (polygons : List Rings) (t : Table) → t ≡ ring_table polygons → IsUnpinched polygons → HasFewPieces polygons → (fault : ValidFault) → IsRefusedLegend t fault → IsRefusedFeature polygons fault
refused_by_legend polygons t is free few ManyPieces h = absurd h
refused_by_legend polygons t is free few ManyCovers many = record { unpinched = free; few_pieces = few; many = subst (λ (s : Table). most_members < cover_sum s) is many }
refused_by_legend polygons t is free few NoMemory h = h
