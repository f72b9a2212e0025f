use Rattle.std.proofs.Common.{refl}
use Rattle.loc_indexed.proofs.flaws.flaw_stop_of.Goals as goal

pub returns-in-Bare : goal.returns-in-Bare
returns-in-Bare c = rw (c.in-Bare.is, c.numbered_line-in-Bare.ensures) refl
