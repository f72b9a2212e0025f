-- Rings, polygons and features as values. The words: `IsRing`, `with_ring`, `rings_before`, `cut_into`, `Feature`, `rings_of`, `unnamed`.
use Rattle.std.specs.Prelude.{◌≡◌, ℕ, ◌-◌, ◌≤◌, List, [], ◌∷◌, ◌++◌, length, take, drop, slice_get}
use Rattle.loc_spec_plane.specs.Rings.{Ring, Rings}
use Rattle.loc_spec_text.specs.Reading.{Polygons, all_rings}

-- a ring has at least four points, and its last point is its first (OGC 06-103r4: a ring is closed)
pub record IsRing (ring : Ring) : Type 0 where
  pub long : 4 ≤ length ring
  pub closed : slice_get ring 0 ≡ slice_get ring (length ring - 1)

-- the polygons, of which the last has one ring more
abbrev pub with_ring : Polygons → Ring → Polygons
with_ring [] ring = []
with_ring (rings ∷ []) ring = (rings ++ ring ∷ []) ∷ []
with_ring (rings ∷ more ∷ polygons) ring = rings ∷ with_ring (more ∷ polygons) ring

-- how many rings the first n polygons have, and so the number of the first ring of polygon n
abbrev pub rings_before : Polygons → ℕ → ℕ
rings_before polygons n = length (all_rings (take n polygons))

-- the rings cut into polygons, each of which begins at its number of a ring
abbrev pub cut_into : List ℕ → Rings → Polygons
cut_into [] rings = []
cut_into (start ∷ []) rings = drop start rings ∷ []
cut_into (start ∷ next ∷ starts) rings = take (next - start) (drop start rings) ∷ cut_into (next ∷ starts) rings

-- the bytes of an id, and polygons
pub record Feature : Type 0 where
  pub id : List ℕ
  pub polygons : Polygons

-- the rings of a feature: those of its polygons
abbrev pub rings_of : Feature → Rings
rings_of feature = all_rings feature.polygons

-- a feature without an id that has these rings as its one polygon
abbrev pub unnamed : Rings → Feature
unnamed rings = record { id = []; polygons = rings ∷ [] }
