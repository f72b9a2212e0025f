use Rattle.std.proofs.Common.{◌≡◌, ◌≤◌, ◌+◌, drop, length}
use Rattle.std.specs.List.{sum_by}
use Rattle.loc_spec_text.specs.{Limits.most_points, Reading.all_rings}
use Rattle.loc_rings.proofs.layers.points_with.Given as goal

abbrev pub invariant-loop-n : goal.invariant-loop-n
invariant-loop-n l = (l.points + sum_by length (drop l.n (all_rings l.rings)) ≡ l.before + sum_by length (all_rings l.rings)) × (l.points ≤ most_points)
