use Rattle.loc_laws_regroup.proofs.Layers.{layer_reads}
use Rattle.loc_laws_regroup.proofs.layer_law.Goals as goal

pub returns : goal.returns
returns c = layer_reads
