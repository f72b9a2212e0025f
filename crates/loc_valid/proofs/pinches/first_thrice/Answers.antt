use Rattle.std.proofs.Common.{◌-◌, ◌∙◌, get_or, sym}
use Rattle.std.proofs.lemmas.Bool.{both_ways}
use Rattle.loc_valid.specs.Pinches.{same_pair}
use Rattle.loc_valid.proofs.{PairOrder.same_pair_decides, Thrice.found, Thrice.more, Thrice.none}
use Rattle.loc_valid.proofs.pinches.first_thrice.Goals as goal

pub returns-then-eq : goal.returns-then-eq
returns-then-eq c = found c.args.pairs.now c.requires.in_order c.loop-i.i c.loop-i.auto.i c.loop-i-test.true ((same_pair_decides (get_or c.args.pairs.now c.loop-i.i (0, 0)) (get_or c.args.pairs.now (c.loop-i.i - 2) (0, 0))).0 (sym c.eq.ensures ∙ c.if-eq.true)) c.loop-i.invariant

pub loop-i-preserved : goal.loop-i-preserved
loop-i-preserved c = more c.args.pairs.now c.requires.in_order c.loop-i.i c.loop-i-test.true (λ le same. both_ways (same_pair (get_or c.args.pairs.now c.loop-i.i (0, 0)) (get_or c.args.pairs.now (c.loop-i.i - 2) (0, 0))) (sym c.eq.ensures ∙ c.if-eq.false) ((same_pair_decides (get_or c.args.pairs.now c.loop-i.i (0, 0)) (get_or c.args.pairs.now (c.loop-i.i - 2) (0, 0))).1 (sym same))) c.loop-i.invariant

pub returns : goal.returns
returns c = none c.args.pairs.now c.requires.in_order c.loop-i.i c.loop-i-test.false c.loop-i.invariant
