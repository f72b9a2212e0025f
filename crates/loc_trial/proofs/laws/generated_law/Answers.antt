use Rattle.loc_trial.proofs.{LayerTexts.layer_read, Corners.point_read}
use Rattle.loc_trial.proofs.laws.generated_law.Goals as goal

pub returns-clause-layers : goal.returns-clause-layers
returns-clause-layers c = layer_read

pub returns-clause-points : goal.returns-clause-points
returns-clause-points c = point_read
