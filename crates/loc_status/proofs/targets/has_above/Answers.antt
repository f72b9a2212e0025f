use Rattle.std.proofs.Common.{◌≡◌, sym}
use Rattle.loc_geom.specs.declared.kinds.Side.TheVariants.{Above}
use Rattle.loc_status.proofs.targets.has_above.Goals as goal

pub returns-in-Above : goal.returns-in-Above
returns-in-Above c = let above : c.side.result ≡ Above = c.in-Above.is in sym (rw above at c.side.ensures)
