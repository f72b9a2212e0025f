-- The corners of a layer's table are points of its rings, so they are on the grid where these are.
use Rattle.std.proofs.Common.{Bool, true, false, List, [], ◌∷◌}
use Rattle.std.specs.Prelude.{if◌then◌else◌}
use Rattle.std.specs.List.{AllByRecursion}
use Rattle.loc_spec_plane.specs.Lists.{sorted_set, with_member}
use Rattle.loc_spec_plane.specs.Points.{before, Edge, IsGridPoint, Point, same_point}
use Rattle.loc_spec_plane.specs.Rings.{Ring, ring_segments, Rings, segment_between, segments}
use Rattle.loc_spec_plane.specs.Tables.{layer_segments, noded_table_of, table_by}
use Rattle.loc_laws_regroup.proofs.Lists.{all_flat}

module _ {X : Type 0} (P : X → Type 0) (comes_before : X → X → Bool) where
  with_all : (x : X) (ys : List X) → P x → AllByRecursion P ys → AllByRecursion P (with_member comes_before x ys)
  with_all x [] here good = (here, tt)
  with_all x (y ∷ ys) here good = by (comes_before x y) (comes_before y x) (with_all x ys here good.1)
    where
      by : (first later : Bool) → AllByRecursion P (with_member comes_before x ys) → AllByRecursion P (if first then x ∷ y ∷ ys else (if later then y ∷ with_member comes_before x ys else y ∷ ys))
      by true later rest = (here, good)
      by false true rest = (good.0, rest)
      by false false rest = good

  -- what holds of each holds of each of the sorted set
  set_all : (xs : List X) → AllByRecursion P xs → AllByRecursion P (sorted_set comes_before xs)
  set_all [] good = tt
  set_all (x ∷ xs) good = with_all x (sorted_set comes_before xs) good.0 (set_all xs good.1)

-- both ends are on the grid
abbrev EndsOn : Edge → Type 0
EndsOn s = IsGridPoint s.lo × IsGridPoint s.hi

between_on : (p q : Point) → IsGridPoint p → IsGridPoint q → EndsOn (segment_between p q)
between_on p q first second = by (before p q)
  where
    by : (up : Bool) → EndsOn (if up then record { lo = p; hi = q } else record { lo = q; hi = p })
    by true = (first, second)
    by false = (second, first)

ring_on : (r : Ring) → AllByRecursion IsGridPoint r → AllByRecursion EndsOn (ring_segments r)
ring_on [] on = tt
ring_on (p ∷ []) on = tt
ring_on (p ∷ q ∷ ps) on = by (same_point p q) (ring_on (q ∷ ps) on.1)
  where
    by : (same : Bool) → AllByRecursion EndsOn (ring_segments (q ∷ ps)) → AllByRecursion EndsOn (if same then ring_segments (q ∷ ps) else segment_between p q ∷ ring_segments (q ∷ ps))
    by true rest = rest
    by false rest = (between_on p q on.0 on.1.0, rest)

pub corners_on : (layer : List Rings) → AllByRecursion (AllByRecursion (AllByRecursion IsGridPoint)) layer → AllByRecursion IsGridPoint (noded_table_of layer).corners
unfolding table_by
corners_on layer on = set_all IsGridPoint before _ (all_flat EndsOn IsGridPoint (λ (s : Edge). s.lo ∷ s.hi ∷ []) (λ s ends. (ends.0, (ends.1, tt))) (layer_segments layer)
    (all_flat (AllByRecursion (AllByRecursion IsGridPoint)) EndsOn segments (λ rings each. all_flat (AllByRecursion IsGridPoint) EndsOn ring_segments ring_on rings each) layer on))
