use Rattle.loc_features.proofs.Named.{named}
use Rattle.loc_features.proofs.laws.query_law.Goals as goal

pub returns : goal.returns
returns c = named
