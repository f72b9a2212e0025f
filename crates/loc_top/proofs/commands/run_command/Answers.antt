use Rattle.loc_top.proofs.commands.run_command.Goals as goal

pub returns-in-Query-clause-follows : goal.returns-in-Query-clause-follows
returns-in-Query-clause-follows g c = rw c.in-Query.is c.run_query.ensures

pub returns-in-Ask-clause-follows : goal.returns-in-Ask-clause-follows
returns-in-Ask-clause-follows g c = rw c.in-Ask.is c.ask.ensures

pub returns-in-Verify-clause-follows : goal.returns-in-Verify-clause-follows
returns-in-Verify-clause-follows g c = rw c.in-Verify.is (c.verify.ensures.follows c.args.steps.now)

pub returns-in-Gen-clause-follows : goal.returns-in-Gen-clause-follows
returns-in-Gen-clause-follows g c = rw c.in-Gen.is (c.generate.ensures (g.F.Shelf.meaning c.args.shelf.now) c.args.steps.now)

pub returns-in-Trial-clause-follows : goal.returns-in-Trial-clause-follows
returns-in-Trial-clause-follows g c = rw c.in-Trial.is (c.trial.ensures (g.F.Shelf.meaning c.args.shelf.now))

pub returns-in-Edges-clause-follows : goal.returns-in-Edges-clause-follows
returns-in-Edges-clause-follows g c = rw c.in-Edges.is (c.edges.ensures.follows c.args.steps.now)

pub returns-in-Upgrade-clause-follows : goal.returns-in-Upgrade-clause-follows
returns-in-Upgrade-clause-follows g c = rw c.in-Upgrade.is (c.run_upgrade.ensures.follows (g.O.Sink.meaning c.args.out.now) c.args.steps.now)

pub returns-in-Verify-clause-beside : goal.returns-in-Verify-clause-beside
returns-in-Verify-clause-beside g c = rw c.in-Verify.is c.verify.ensures.judged

pub returns-in-Upgrade-clause-beside : goal.returns-in-Upgrade-clause-beside
returns-in-Upgrade-clause-beside g c = rw c.in-Upgrade.is c.run_upgrade.ensures.beside

pub returns-in-Edges-clause-beside : goal.returns-in-Edges-clause-beside
returns-in-Edges-clause-beside g c = rw c.in-Edges.is c.edges.ensures.listed

pub returns-in-Valid-clause-follows : goal.returns-in-Valid-clause-follows
returns-in-Valid-clause-follows g c = rw c.in-Valid.is (c.run_valid.ensures c.args.steps.now)
