-- A link at a place has a row.
use Rattle.std.proofs.Common.{◌-◌}
use Rattle.loc_pool.proofs.Maps.{has-place}
use Rattle.loc_persist.proofs.store.Store.row.Goals as goal

pub numbered-requires-clause-row : goal.numbered-requires-clause-row
numbered-requires-clause-row c = has-place c.self.inside.present.pool.rows c.link.result (c.args.number - 1) c.link.ensures.1

pub numbered-requires-clause-closed : goal.numbered-requires-clause-closed
numbered-requires-clause-closed c = c.self.invariant.present.closed c.link.result (has-place c.self.inside.present.pool.rows c.link.result (c.args.number - 1) c.link.ensures.1)
