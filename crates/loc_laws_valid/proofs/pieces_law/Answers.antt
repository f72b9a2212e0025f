use Rattle.loc_laws_valid.proofs.Fewer.{polygon_pieces}
use Rattle.loc_laws_valid.proofs.pieces_law.Goals as goal

pub returns : goal.returns
returns c = polygon_pieces
