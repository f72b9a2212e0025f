-- Direct containment by the segments at the moment of a point, as statements that contracts cite. The words:
--   at_moment, is_under                 the sweep line at a point meets a segment, its ends included; a segment lies below the point
--   IsClosed, AreClosed                 the last point of a ring is its first; so of all rings of a feature
--   TouchesAtMoment, CoversAtMoment     direct containment looks at the segments of its moment alone
use Rattle.std.specs.Prelude.{◌≡◌, Bool, not, ◌&&◌, [], ◌∷◌, filter, ⊤}
use Rattle.std.specs.List.{list_any}
use Rattle.loc_spec_plane.specs.{Lists.odd_many, Places.alive}
use Rattle.loc_spec_plane.specs.Points.{Point, Edge, up_to, is_above, lies_on}
use Rattle.loc_spec_plane.specs.Rings.{Ring, Rings, segments, touches, covers}
use Rattle.loc_laws_rays.specs.Laws.{last_point}

-- the sweep line at p meets the segment, which may also end there
abbrev pub at_moment : Edge → Point → Bool
at_moment s p = up_to s.lo p && up_to p s.hi

-- the segment is alive at p and has p above it
abbrev pub is_under : Edge → Point → Bool
is_under s p = alive s p && is_above s p

-- the last point of a ring is its first
abbrev pub IsClosed : Ring → Type 0
IsClosed [] = ⊤
IsClosed (first ∷ rest) = last_point first rest ≡ first

-- each ring is closed
abbrev pub AreClosed : Rings → Type 0
AreClosed [] = ⊤
AreClosed (ring ∷ rings) = IsClosed ring × AreClosed rings

-- a point lies on a segment exactly where it lies on one of its moment
abbrev pub TouchesAtMoment : Type 0
TouchesAtMoment = (rings : Rings) (p : Point) → touches rings p ≡ list_any (λ s. lies_on s p) (filter (λ s. at_moment s p) (segments rings))

-- closed rings cover a point exactly where they do not touch it and an odd number of the segments of its moment lie below it, each as often as it stands there
abbrev pub CoversAtMoment : Type 0
CoversAtMoment = (rings : Rings) (p : Point) → AreClosed rings → covers rings p ≡ (not (touches rings p) && odd_many (λ s. is_under s p) (filter (λ s. at_moment s p) (segments rings)))
