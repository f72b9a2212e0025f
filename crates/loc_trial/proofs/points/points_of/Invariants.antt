use Rattle.std.proofs.Common.{◌≡◌}
use Rattle.std.specs.List.{flat_map, range_with_len}
use Rattle.loc_spec_text.specs.Points.{ended}
use Rattle.loc_trial.specs.Generated.{point_line}
use Rattle.loc_trial.proofs.points.points_of.Given as goal

abbrev pub invariant-loop-t : goal.invariant-loop-t
invariant-loop-t l = l.text.items ≡ flat_map (λ t. ended (point_line l.n l.shift t)) (range_with_len 0 l.t)
