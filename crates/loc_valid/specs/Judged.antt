-- What a judgement says, in the words of the rules. The words:
--   told                 a breach as the rules name it
--   parts_at             how many parts a polygon has
--   IsRefusedNode        why a ring table is refused
--   IsNoMemory           there was no memory
--   HasFewPieces, HasManyPieces, IsUnpinched, HasManyCovers  the pieces of the rings are few; or they are many, and no ring is a point; none of the first four breaches applies; with that, and few pieces, the cover lists are long
--   IsRefusedLegend, IsRefusedFeature  why a legend, and why a feature, is refused
use Rattle.std.specs.Prelude.{ℕ, ◌<◌, ◌≤◌, List, [], ◌∷◌, map, Option, Some, None}
use Rattle.loc_spec_plane.specs.{Rings.Rings, Tables.Table, Tables.piece_count, Covers.cover_sum}
use Rattle.loc_spec_valid.specs.Breaches.{HasNoCrossing, HasSegments, feature_rings, part_count, polygon_table, ring_table}
use Rattle.loc_laws_valid.specs.Laws.{NonePinched, NoneTwice}
use Rattle.loc_spec_text.specs.Limits.{most_members, most_pieces}
use Rattle.loc_faces.specs.Subdivision.{face_at, next_at}
use Rattle.loc_spec_valid.specs.Breaches as rules
use Rattle.loc_valid.specs.{declared.breach.Breach.Breach, declared.fault.ValidFault.ValidFault}
use Rattle.loc_valid.specs.declared.breach.Breach.TheVariants.{PointRing, Cross, Twice, Pinch, Outside, Nested, Parts, Overlap}
use Rattle.loc_valid.specs.declared.fault.ValidFault.TheVariants.{ManyPieces, ManyCovers, NoMemory}

-- a breach as the rules name it
abbrev pub told : Option Breach → Option rules.Breach
told None = None
told (Some (PointRing ring)) = Some (rules.point_ring ring)
told (Some (Cross a b)) = Some (rules.crossing a b)
told (Some (Twice edge)) = Some (rules.twice edge)
told (Some (Pinch ring at)) = Some (rules.pinch ring at)
told (Some (Outside ring)) = Some (rules.outside ring)
told (Some (Nested ring inside)) = Some (rules.nested ring inside)
told (Some (Parts polygon parts)) = Some (rules.parts polygon parts)
told (Some (Overlap polygon other)) = Some (rules.overlap polygon other)

-- how many parts polygon n has
abbrev pub parts_at : List Rings → ℕ → ℕ
parts_at polygons n = part_count (polygon_table polygons n) (next_at (polygon_table polygons n)) (face_at (polygon_table polygons n))

-- why a table with so many pieces is refused; want of memory may come at any time
abbrev pub IsRefusedNode : ℕ → ValidFault → Type 0
IsRefusedNode count ManyPieces = most_pieces < count
IsRefusedNode count ManyCovers = ⊥
IsRefusedNode count NoMemory = Unit {0}

-- there was no memory
abbrev pub IsNoMemory : ValidFault → Type 0
IsNoMemory ManyPieces = ⊥
IsNoMemory ManyCovers = ⊥
IsNoMemory NoMemory = Unit {0}

-- the pieces of the rings of a feature are within the limit
abbrev pub HasFewPieces : List Rings → Type 0
HasFewPieces polygons = piece_count (map (λ ring. ring ∷ []) (feature_rings polygons)) ≤ most_pieces

-- no ring is a point, and the pieces of the rings are past the limit
pub record HasManyPieces (polygons : List Rings) : Type 0 where
  pub segments : HasSegments polygons
  pub many : most_pieces < piece_count (map (λ ring. ring ∷ []) (feature_rings polygons))

-- none of the first four breaches applies
pub record IsUnpinched (polygons : List Rings) : Type 0 where
  pub segments : HasSegments polygons
  pub uncrossed : HasNoCrossing polygons
  pub once : NoneTwice polygons
  pub unpinched : NonePinched polygons

-- none of the first four breaches applies, the pieces are within the limit, and the distinct cover lists of the rings are past theirs
pub record HasManyCovers (polygons : List Rings) : Type 0 where
  pub unpinched : IsUnpinched polygons
  pub few_pieces : HasFewPieces polygons
  pub many : most_members < cover_sum (ring_table polygons)

-- why a table has no legend; want of memory may come at any time
abbrev pub IsRefusedLegend : Table → ValidFault → Type 0
IsRefusedLegend t ManyPieces = ⊥
IsRefusedLegend t ManyCovers = most_members < cover_sum t
IsRefusedLegend t NoMemory = Unit {0}

-- why a feature is not judged; want of memory may come at any time
abbrev pub IsRefusedFeature : List Rings → ValidFault → Type 0
IsRefusedFeature polygons ManyPieces = HasManyPieces polygons
IsRefusedFeature polygons ManyCovers = HasManyCovers polygons
IsRefusedFeature polygons NoMemory = Unit {0}
