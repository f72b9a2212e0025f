use Rattle.std.proofs.Common.{arith}
use Rattle.loc_rings.proofs.Cuts.{seen-length}
use Rattle.loc_rings.proofs.cut.CutRings.polygons.Goals as goal

pub returns-clause-value : goal.returns-clause-value
returns-clause-value c = omega (arith, c.len.ensures, seen-length c.self.invariant c.self.view_is)
