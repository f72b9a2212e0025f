use Rattle.loc_batch.proofs.Pieces.{feeds_both}
use Rattle.loc_batch.proofs.laws.pieces_law.Goals as goal

pub returns : goal.returns
returns c = feeds_both
