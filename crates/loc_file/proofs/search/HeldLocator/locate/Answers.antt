use Rattle.loc_file.proofs.Searched.{found-in-range, found-place}
use Rattle.loc_file.proofs.search.HeldLocator.locate.Goals as goal

pub returns-clause-place : goal.returns-clause-place
returns-clause-place g c = found-place c.args.self.now.content c.args.views.now c.args.p c.search.result c.search.ensures.found

pub returns-clause-in_range : goal.returns-clause-in_range
returns-clause-in_range g c = found-in-range c.args.self.now.content _ c.args.views.now c.args.p c.search.result c.law.ensures c.requires c.search.ensures.found
