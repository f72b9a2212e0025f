use Rattle.std.proofs.Common.{arith}
use Rattle.loc_cover.proofs.Lasting.{some_fits}
use Rattle.loc_cover.proofs.covers.above_of.Goals as goal

pub bounds-numbers-number-index : goal.bounds-numbers-number-index
bounds-numbers-number-index c = c.loop-number-test.true

pub returns-clause-as_many : goal.returns-clause-as_many
returns-clause-as_many c = omega (arith, c.loop-number.invariant.as_many, c.loop-number-test.false, c.loop-number.auto.number-index-end)

pub returns-clause-each : goal.returns-clause-each
returns-clause-each c = λ e n is. c.loop-number.invariant.each e n (some_fits c.args.numbers.now e n c.loop-number.number-index c.loop-number-test.false is) is
