use Rattle.std.proofs.Common.{◌++◌, arith, take, take_all, subst}
use Rattle.std.specs.Str.Parse.{digits_value}
use Rattle.loc_wkt.specs.GridNumbers.{Represents}
use Rattle.loc_wkt.proofs.DigitLemmas.{digit_at, digits_behind}
use Rattle.loc_wkt.proofs.grid_numbers.digits.Digits.followed_by.Goals as goal

pub loop-b-preserved : goal.loop-b-preserved
loop-b-preserved c = record {
  value = λ before r. subst (λ v. Represents c.push-read.result v) (digits_behind before c.args.digits.now c.loop-b.b-index (omega arith) c.requires.digits)
      (c.push-read.ensures.value (digits_value 10 (before ++ take c.loop-b.b-index c.args.digits.now)) (c.loop-b.invariant.value before r));
  zeros = omega (arith, c.push-read.ensures.zeros, c.loop-b.invariant.zeros);
}

pub push-read-requires-clause-small : goal.push-read-requires-clause-small
push-read-requires-clause-small c = let digit = digit_at c.args.digits.now c.loop-b.b-index c.loop-b-test.true c.requires.digits in omega arith

pub returns-clause-value : goal.returns-clause-value
returns-clause-value c = λ before r. subst (λ ds. Represents c.loop-b.read (digits_value 10 (before ++ ds))) (take_all c.loop-b.b-index c.args.digits.now c.loop-b-test.false) (c.loop-b.invariant.value before r)
