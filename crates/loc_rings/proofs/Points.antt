-- The written points of rings, one ring after another.
use Rattle.std.proofs.Common.{◌≡◌, ℕ, ◌+◌, length, take, drop, slice_get, Some, ◌∙◌, ap}
use Rattle.std.specs.List.{sum_by}
use Rattle.std.proofs.lemmas.List.Sums.{sum_by-drop_more, sum_by_more}
use Rattle.std.proofs.lemmas.Option.{get_or_from_slice_get, slice_get_within}
use Rattle.loc_spec_plane.specs.Rings.{Ring, Rings}

-- the points from ring n on are its own and those of the later rings
pub points_from : (rings : Rings) (n : ℕ) (ring : Ring) → slice_get rings n ≡ Some ring → sum_by length (drop n rings) ≡ length ring + sum_by length (drop (n + 1) rings)
points_from rings n ring at = sum_by-drop_more length rings n ring (slice_get_within rings n ring at) ∙ ap (λ r. length r + sum_by length (drop (n + 1) rings)) (get_or_from_slice_get rings n ring ring at)

-- the points of the rings up to ring n are those of the rings before and its own
pub points_to : (rings : Rings) (n : ℕ) (ring : Ring) → slice_get rings n ≡ Some ring → sum_by length (take (n + 1) rings) ≡ sum_by length (take n rings) + length ring
points_to rings n ring at = sum_by_more length rings n ring (slice_get_within rings n ring at) ∙ ap (λ r. sum_by length (take n rings) + length r) (get_or_from_slice_get rings n ring ring at)
