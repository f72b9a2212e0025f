use Rattle.std.proofs.Common.{◌+◌, length, ap, arith}
use Rattle.std.proofs.lemmas.List.{length-map}
use Rattle.loc_rings.proofs.Cuts.{before-rises, before-within, seen-first, seen-length, seen-next, seen-past, seen-rings}
use Rattle.loc_rings.proofs.cut.CutRings.polygon.Goals as goal

pub index-first-requires : goal.index-first-requires
index-first-requires c = omega (arith, c.requires, seen-length c.self.invariant c.self.view_is)

pub returns-in-Some-clause-first : goal.returns-in-Some-clause-first
returns-in-Some-clause-first c = seen-first c.self.invariant c.self.view_is c.args.n c.index-first.result.now c.requires c.index-first.ensures

pub returns-in-Some-clause-past : goal.returns-in-Some-clause-past
returns-in-Some-clause-past c = seen-next c.self.invariant c.self.view_is (c.args.n + 1) c.in-Some.past.now _ c.deref.ensures.value c.in-Some.ensures.lookup.3

pub returns-in-Some-clause-in_order : goal.returns-in-Some-clause-in_order
returns-in-Some-clause-in_order c = omega (arith, returns-in-Some-clause-first c, returns-in-Some-clause-past c, before-rises c.args.self.now c.args.n (c.args.n + 1) (omega arith))

pub returns-in-Some-clause-within : goal.returns-in-Some-clause-within
returns-in-Some-clause-within c = omega (arith, returns-in-Some-clause-past c, before-within c.args.self.now (c.args.n + 1))

pub returns-in-Some-clause-few : goal.returns-in-Some-clause-few
returns-in-Some-clause-few c = omega (arith, returns-in-Some-clause-within c, ap length (seen-rings c.self.invariant c.self.view_is), c.self.invariant.few_rings)

pub returns-in-None-clause-first : goal.returns-in-None-clause-first
returns-in-None-clause-first c = seen-first c.self.invariant c.self.view_is c.args.n c.index-first.result.now c.requires c.index-first.ensures

pub returns-in-None-clause-past : goal.returns-in-None-clause-past
returns-in-None-clause-past c = omega (arith, c.len.ensures, length-map c.self.inside.rings.items (λ ring. ring.items), seen-past c.self.invariant c.self.view_is (c.args.n + 1) _ c.deref.ensures.value c.in-None.ensures.lookup.3)

pub returns-in-None-clause-in_order : goal.returns-in-None-clause-in_order
returns-in-None-clause-in_order c = omega (arith, returns-in-None-clause-first c, returns-in-None-clause-past c, before-rises c.args.self.now c.args.n (c.args.n + 1) (omega arith))

pub returns-in-None-clause-within : goal.returns-in-None-clause-within
returns-in-None-clause-within c = omega (arith, returns-in-None-clause-past c, before-within c.args.self.now (c.args.n + 1))
