-- The places of a point in the parts of a layer. The words:
--   places_at, found_at  the place of a point in each part, as it is found; and with the point
--   IsAt, AreAt          a place is that of a point in a part; so are the first of a list in all parts
use Rattle.std.specs.Prelude.{ℕ, ◌-◌, ◌<◌, List, ◌++◌, get_or, length, map, replicate, None}
use Rattle.loc_spec_plane.specs.{Points.Point, Places.IsPlace, declared.Place.Place, declared.Place.TheVariants.Area}
use Rattle.loc_place.specs.{Answers.IsInRange, Found.place_at}
use Rattle.loc_parts.specs.declared.parts.Part.{Part}
use Rattle.loc_features.specs.declared.placing.Found.{Found}

-- the place of a point in each part, and behind them an area without a floor, as many together as there is room for
abbrev pub places_at : ℕ → List Part → Point → List Place
places_at most parts p = map (λ (part : Part). place_at part.plane.table p) parts ++ replicate (most - length parts) (Area None)

-- the same with the point
abbrev pub found_at : {most : ℕ} → List Part → Point → Found most
found_at {most} parts p = record { point = p; places = places_at most parts p }

-- the place is that of the point in the part, and has numbers of its corners and edges
pub record IsAt (part : Part) (p : Point) (place : Place) : Type 0 where
  pub is : IsPlace part.plane.table p place
  pub in_range : IsInRange part.plane.table place

-- the first places are those of the point in the parts
abbrev pub AreAt : {most : ℕ} → List Part → Found most → Type 0
AreAt parts found = (k : ℕ) (d : Part) (e : Place) → k < length parts → IsAt (get_or parts k d) found.point (get_or found.places k e)
