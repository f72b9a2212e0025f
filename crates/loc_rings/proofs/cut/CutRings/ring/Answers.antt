use Rattle.std.proofs.Common.{sym, ap, length, arith}
use Rattle.std.proofs.lemmas.List.{length-map}
use Rattle.loc_rings.proofs.{Cuts.seen-rings, RingLists.ring_at, RingLists.ring_read}
use Rattle.loc_rings.proofs.cut.CutRings.ring.Goals as goal

pub index-requires : goal.index-requires
index-requires c = omega (arith, c.requires, ap length (seen-rings c.self.invariant c.self.view_is), length-map c.self.inside.rings.items (λ ring. ring.items))

pub returns-clause-value : goal.returns-clause-value
returns-clause-value c = ring_read (λ ring. ring.items) c.self.inside.rings.items _ c.args.n c.index.result.now c.as_slice.result.now (sym (seen-rings c.self.invariant c.self.view_is)) c.requires c.index.ensures c.as_slice.ensures.value

pub returns-clause-closed : goal.returns-clause-closed
returns-clause-closed c = ring_at (λ ring. ring.items) c.self.inside.rings.items _ c.args.n c.index.result.now c.as_slice.result.now (sym (seen-rings c.self.invariant c.self.view_is)) c.requires c.index.ensures c.as_slice.ensures.value c.self.invariant.each
