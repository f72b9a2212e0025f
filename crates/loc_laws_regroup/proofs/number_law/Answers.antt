use Rattle.loc_laws_regroup.proofs.Grids.{grid_text_reads}
use Rattle.loc_laws_regroup.proofs.number_law.Goals as goal

pub returns : goal.returns
returns c = grid_text_reads
