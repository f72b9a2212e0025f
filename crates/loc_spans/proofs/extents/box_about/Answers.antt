use Rattle.std.proofs.Common.{◌≡◌, true, sym, ◌∙◌, ap, subst}
use Rattle.std.specs.List.{list_all}
use Rattle.std.proofs.lemmas.List.{take_all}
use Rattle.loc_laws_any.specs.Boxes.{is_boxed}
use Rattle.loc_spans.proofs.Widening.{boxed_more}
use Rattle.loc_spans.proofs.extents.box_about.Goals as goal

pub loop-segment-preserved : goal.loop-segment-preserved
loop-segment-preserved c = boxed_more c.loop-segment.around c.widened-around.result c.args.segments.now c.loop-segment.segment-index c.segment-item.result c.widened-around.ensures.wider c.loop-segment-test.true c.loop-segment.invariant (subst (λ s. is_boxed c.widened-around.result.span.lo c.widened-around.result.span.hi c.widened-around.result.low.y c.widened-around.result.high.y s ≡ true) c.segment-item.is c.widened-around.ensures.holds)

pub returns-clause-boxed : goal.returns-clause-boxed
returns-clause-boxed c =
    let a = c.loop-segment.around in
    ap (list_all (is_boxed a.span.lo a.span.hi a.low.y a.high.y)) (sym (take_all c.loop-segment.segment-index c.args.segments.now c.loop-segment-test.false)) ∙ c.loop-segment.invariant
