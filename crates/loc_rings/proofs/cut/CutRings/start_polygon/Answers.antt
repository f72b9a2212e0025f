use Rattle.std.proofs.{Common.arith, lemmas.List.length-map}
use Rattle.loc_rings.proofs.Cuts.{kept-start, seen-start}
use Rattle.loc_rings.proofs.cut.CutRings.start_polygon.Goals as goal

pub invariant_of-self-2 : goal.invariant_of-self-2
invariant_of-self-2 c = kept-start c.self.invariant c.self.view_is c.len-start.result (omega (arith, length-map c.self.inside.rings.items (λ ring. ring.items), c.len-start.ensures)) c.in_ok-push.ensures.items c.requires.room

pub returns-clause-ok : goal.returns-clause-ok
returns-clause-ok c = seen-start c.self.invariant c.self.view_is c.len-start.result (omega (arith, length-map c.self.inside.rings.items (λ ring. ring.items), c.len-start.ensures)) c.in_ok-push.ensures.items
