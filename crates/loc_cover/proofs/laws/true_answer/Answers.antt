use Rattle.loc_cover.proofs.Covered.{covering_covers, touching_touches}
use Rattle.loc_cover.proofs.laws.true_answer.Goals as goal

pub returns-clause-touching : goal.returns-clause-touching
returns-clause-touching c = touching_touches c.args.table.now c.args.legend.now c.requires.fits c.law.ensures.in_order c.requires.all_ends c.requires.all_even c.requires.apart c.args.p c.args.place c.requires.place

pub returns-clause-covering : goal.returns-clause-covering
returns-clause-covering c = covering_covers c.args.table.now c.args.legend.now c.requires.fits c.requires.is_true c.law.ensures.in_order c.requires.all_ends c.requires.all_even c.requires.apart c.args.p c.args.place c.requires.place
