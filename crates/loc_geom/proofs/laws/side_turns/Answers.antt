use Rattle.loc_geom.proofs.Symmetry.{above_flip, below_flip, on_flip}
use Rattle.loc_geom.proofs.laws.side_turns.Goals as goal

pub returns-clause-above : goal.returns-clause-above
returns-clause-above c = above_flip c.args.a c.args.b c.requires.common

pub returns-clause-on : goal.returns-clause-on
returns-clause-on c = on_flip c.args.a c.args.b c.requires.common

pub returns-clause-below : goal.returns-clause-below
returns-clause-below c = below_flip c.args.a c.args.b c.requires.common
