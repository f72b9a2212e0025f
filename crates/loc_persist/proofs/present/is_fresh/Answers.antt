-- The numbers go by the order of making.
use Rattle.std.proofs.Common.{◌<◌, ◌≤◌, arith}
use Rattle.loc_persist.proofs.Prefix.{is-first, is-later}
use Rattle.loc_persist.proofs.present.is_fresh.Goals as goal

pub returns-clause-fresh : goal.returns-clause-fresh
returns-clause-fresh c t = let b : c.args.nodes < c.number.result = grind (arith, t) in is-later c.args.pool.now.rows c.args.at c.number.result c.args.nodes c.len-count.ensures.names c.number.ensures b

pub returns-clause-old : goal.returns-clause-old
returns-clause-old c t = let b : c.number.result ≤ c.args.nodes = grind (arith, t) in is-first c.args.pool.now.rows c.args.at c.number.result c.args.nodes c.number.ensures b
