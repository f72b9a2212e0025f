use Rattle.loc_laws_valid.proofs.Twice.{twice_by_pieces}
use Rattle.loc_laws_valid.proofs.twice_law.Goals as goal

pub returns : goal.returns
returns c = twice_by_pieces
