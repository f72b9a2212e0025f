use Rattle.std.proofs.Common.{ap, ◌∙◌}
use Rattle.loc_pool.specs.Rows.{child_at}
use Rattle.loc_pool.proofs.pool.Pool.child.Goals as goal

pub returns : goal.returns
returns c = c.child.ensures ∙ ap (child_at c.args.version c.args.turn) c.node.ensures
