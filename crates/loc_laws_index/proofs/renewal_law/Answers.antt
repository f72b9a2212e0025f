use Rattle.loc_laws_index.proofs.Renewed.{renewed}
use Rattle.loc_laws_index.proofs.renewal_law.Goals as goal

pub returns : goal.returns
returns c = renewed
