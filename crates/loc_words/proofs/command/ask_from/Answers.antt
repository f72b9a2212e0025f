use Rattle.std.proofs.Common.{refl, sym}
use Rattle.loc_words.proofs.command.ask_from.Goals as goal

pub returns-clause-value : goal.returns-clause-value
returns-clause-value c = rw (sym c.in_ok-index.ensures) (rw (sym c.in_ok-points.ensures) refl)
