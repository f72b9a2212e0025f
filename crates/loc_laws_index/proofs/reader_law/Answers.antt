use Rattle.loc_laws_index.proofs.HeldTold.{reads_files}
use Rattle.loc_laws_index.proofs.reader_law.Goals as goal

pub returns : goal.returns
returns c = reads_files
