use Rattle.loc_breaches.proofs.Plainly.{valid_plain}
use Rattle.loc_breaches.proofs.laws.valid_law.Goals as goal

pub returns : goal.returns
returns c = record { plain = valid_plain }
