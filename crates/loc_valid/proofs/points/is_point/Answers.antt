use Rattle.std.proofs.Common.{length, sym, ◌∙◌, ap}
use Rattle.std.specs.Prelude.{◌==◌}
use Rattle.loc_valid.proofs.PointRings.{none_left}
use Rattle.loc_valid.proofs.points.is_point.Goals as goal

pub returns : goal.returns
returns c = sym (ap (λ ss. length ss == 0) (c.loop-i.invariant ∙ none_left c.args.ring.now c.loop-i.i c.loop-i-test.false))
