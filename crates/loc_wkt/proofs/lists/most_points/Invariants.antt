use Rattle.std.proofs.Common.{◌≤◌}
use Rattle.loc_wkt.proofs.lists.most_points.Given as goal

abbrev pub invariant-loop-i : goal.invariant-loop-i
invariant-loop-i l = l.commas ≤ l.i
