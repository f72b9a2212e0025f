use Rattle.loc_features.proofs.Answered.{id_is}
use Rattle.loc_features.proofs.answering.put_name.Goals as goal

pub returns : goal.returns
returns g c = rw (id_is c.args.layer.now c.args.feature c.feature.result.now c.feature.ensures) (rw c.id.ensures.value at c.put_quoted.ensures)
