use Rattle.std.proofs.Common.{ap, ◌∙◌}
use Rattle.loc_pool.specs.{Maps.put, Rows.stamped}
use Rattle.loc_pool.proofs.pool.Pool.stamp.Goals as goal

pub returns : goal.returns
returns c =
    c.write.ensures
    ∙ ap (λ x. record c.args.self.now { rows = put c.args.self.now.rows c.args.at x }) (c.with_extra-node.ensures ∙ ap (stamped c.args.version c.args.turn c.args.to) c.node.ensures)
