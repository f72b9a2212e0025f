use Rattle.loc_laws_any.proofs.Boxes.{box_law}
use Rattle.loc_laws_any.proofs.box_law.Goals as goal

pub returns : goal.returns
returns c = box_law
