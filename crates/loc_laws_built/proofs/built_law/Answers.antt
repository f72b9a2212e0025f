use Rattle.loc_laws_built.proofs.{Counted.layer_fits, Spelled.bytes_of_are, True.content_is_true}
use Rattle.loc_laws_built.proofs.built_law.Goals as goal

pub returns-clause-is_true : goal.returns-clause-is_true
returns-clause-is_true c = content_is_true

pub returns-clause-fits : goal.returns-clause-fits
returns-clause-fits c = layer_fits

pub returns-clause-bytes : goal.returns-clause-bytes
returns-clause-bytes c = bytes_of_are
