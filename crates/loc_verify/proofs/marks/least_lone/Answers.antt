use Rattle.std.proofs.Common.{◌∙◌, arith}
use Rattle.std.proofs.lemmas.Bool.{both_ways}
use Rattle.loc_verify.proofs.marks.least_lone.Goals as goal

pub returns-then-not-is_end : goal.returns-then-not-is_end
returns-then-not-is_end c =
    (omega (arith, c.loop-corner-test.true, c.corner_count-corner-end.ensures.value), λ ends. both_ways c.is_end.result c.if-not-is_end.true (c.is_end.ensures ∙ ends), c.loop-corner.invariant)
