use Rattle.std.proofs.Common.{◌-◌}
use Rattle.loc_spec_plane.specs.Tables.{hi_of}
use Rattle.loc_sweep.proofs.Chains.{removed, removed_neighbours}
use Rattle.loc_sweep.proofs.leaving.leave.Goals as goal

pub test_both-requires-clause-below_in_range : goal.test_both-requires-clause-below_in_range
test_both-requires-clause-below_in_range g c = (removed_neighbours c.args.table.now (hi_of c.args.table.now c.args.edge - 1) c.args.edge (g.S.Status.meaning c.args.status.now).list c.in_ok-beside.beside c.requires.chain c.in_ok-beside.ensures.beside).0

pub test_both-requires-clause-above_in_range : goal.test_both-requires-clause-above_in_range
test_both-requires-clause-above_in_range g c = (removed_neighbours c.args.table.now (hi_of c.args.table.now c.args.edge - 1) c.args.edge (g.S.Status.meaning c.args.status.now).list c.in_ok-beside.beside c.requires.chain c.in_ok-beside.ensures.beside).1

pub returns-clause-chain : goal.returns-clause-chain
returns-clause-chain g c = (removed c.args.table.now (hi_of c.args.table.now c.args.edge - 1) c.args.edge (g.S.Status.meaning c.args.status.now).list (g.S.Status.meaning c.remove.new.self).list c.in_ok-beside.beside c.requires.chain c.in_ok-beside.ensures.beside c.in_ok-beside.ensures.ok.list c.in_ok-test_both.ensures.apart).0

pub returns-clause-others : goal.returns-clause-others
returns-clause-others g c = (removed c.args.table.now (hi_of c.args.table.now c.args.edge - 1) c.args.edge (g.S.Status.meaning c.args.status.now).list (g.S.Status.meaning c.remove.new.self).list c.in_ok-beside.beside c.requires.chain c.in_ok-beside.ensures.beside c.in_ok-beside.ensures.ok.list c.in_ok-test_both.ensures.apart).1

pub returns-clause-beside : goal.returns-clause-beside
returns-clause-beside g c = c.in_ok-beside.ensures.beside
