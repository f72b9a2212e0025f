use Rattle.loc_indexed.proofs.Truly.{built_by, follows_build}
use Rattle.loc_indexed.proofs.building.build.Goals as goal

pub returns-clause-follows : goal.returns-clause-follows
returns-clause-follows g c = follows_build _ _ _ _ _ c.make_index.ensures

pub returns-clause-built : goal.returns-clause-built
returns-clause-built g c = built_by _ _ _ _ _ c.make_index.ensures
