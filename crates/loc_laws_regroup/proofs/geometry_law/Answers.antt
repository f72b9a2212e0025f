use Rattle.loc_laws_regroup.proofs.Values.{geometry_reads}
use Rattle.loc_laws_regroup.proofs.geometry_law.Goals as goal

pub returns : goal.returns
returns c = geometry_reads
