use Rattle.std.proofs.{Common.length, Common.ap, Common.arith, lemmas.List.length-map}
use Rattle.loc_rings.proofs.Cuts.{seen-rings}
use Rattle.loc_rings.proofs.cut.CutRings.len.Goals as goal

pub returns-clause-value : goal.returns-clause-value
returns-clause-value c = omega (arith, c.len.ensures, length-map c.self.inside.rings.items (λ ring. ring.items), ap length (seen-rings c.self.invariant c.self.view_is))
