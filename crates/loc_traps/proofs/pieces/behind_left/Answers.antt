use Rattle.std.proofs.Common.{ap, sym}
use Rattle.loc_laws_traps.specs.Sets.{behind_left}
use Rattle.loc_traps.proofs.pieces.behind_left.Goals as goal

pub returns-in-Some : goal.returns-in-Some
returns-in-Some c = sym (ap (λ left. behind_left left c.args.corner) c.in-Some.is)
