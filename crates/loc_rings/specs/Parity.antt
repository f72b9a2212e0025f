-- What one pass over segments answers. The word: `IsParity`.
use Rattle.std.specs.Prelude.{◌≡◌, Bool, not, List, Option, Some, None, IsTrue}
use Rattle.std.specs.List.{list_any}
use Rattle.loc_spec_plane.specs.{Points.Point, Points.Edge, Points.lies_on, Lists.odd_many, Rays.crosses_right}

-- None where p lies on a segment, else whether the ray from p to the right crosses an odd number of them
abbrev pub IsParity : List Edge → Point → Option Bool → Type 0
IsParity ss p None = IsTrue (list_any (λ s. lies_on s p) ss)
IsParity ss p (Some odd) = IsTrue (not (list_any (λ s. lies_on s p) ss)) × (odd ≡ odd_many (λ s. crosses_right s p) ss)
