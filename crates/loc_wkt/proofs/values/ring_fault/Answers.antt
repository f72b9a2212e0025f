use Rattle.std.proofs.Common.{sym, ◌∙◌, arith}
use Rattle.loc_wkt.proofs.PassLemmas.{ring_open, ring_closed, ring_short}
use Rattle.loc_wkt.proofs.values.ring_fault.Goals as goal

pub returns-else-eq-clause-fault : goal.returns-else-eq-clause-fault
returns-else-eq-clause-fault c = ring_open c.args.ring c.args.points.now c.first-item.result c.last-item.result c.if-points-ge4.true c.first-item.is c.last-item.is (sym c.eq.ensures ∙ c.if-eq.false)

pub returns-else-eq-clause-ring : goal.returns-else-eq-clause-ring
returns-else-eq-clause-ring c = tt

pub returns-then-eq-clause-fault : goal.returns-then-eq-clause-fault
returns-then-eq-clause-fault c = ring_closed c.args.ring c.args.points.now c.first-item.result c.last-item.result c.if-points-ge4.true c.first-item.is c.last-item.is (sym c.eq.ensures ∙ c.if-eq.true)

pub returns-in_default-clause-fault : goal.returns-in_default-clause-fault
returns-in_default-clause-fault c = ring_short c.args.ring c.args.points.now (omega (arith, c.in_default.len_below))

pub returns-in_default-2-clause-fault : goal.returns-in_default-2-clause-fault
returns-in_default-2-clause-fault c = ring_short c.args.ring c.args.points.now (omega (arith, c.if-points-ge4.false))
