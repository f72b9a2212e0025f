use Rattle.loc_laws_any.proofs.Moments.{touches_at_moment, covers_at_moment}
use Rattle.loc_laws_any.proofs.moment_law.Goals as goal

pub returns-clause-touches : goal.returns-clause-touches
returns-clause-touches c = touches_at_moment

pub returns-clause-covers : goal.returns-clause-covers
returns-clause-covers c = covers_at_moment
