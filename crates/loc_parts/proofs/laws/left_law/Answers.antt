use Rattle.std.proofs.Common.{List, subst}
use Rattle.loc_spec_plane.specs.Rings.{Rings}
use Rattle.loc_spans.specs.Boxes.{IsBoxed}
use Rattle.loc_parts.proofs.Answered.{rings_with}
use Rattle.loc_parts.proofs.laws.left_law.Goals as goal

pub returns : goal.returns
returns c layer is = subst (λ (rs : List Rings). IsBoxed rs c.args.left.now.boxed) (rings_with layer c.args.left.now.numbers.items) is.boxed
