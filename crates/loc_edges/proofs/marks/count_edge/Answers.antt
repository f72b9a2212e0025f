use Rattle.std.proofs.Common.{take, sym, ◌∙◌, ap}
use Rattle.std.proofs.lemmas.List.{take_more, take_all}
use Rattle.loc_edges.specs.Tagged.{marks_of}
use Rattle.loc_edges.proofs.marks.count_edge.Goals as goal

pub loop-feature-init : goal.loop-feature-init
loop-feature-init c = c.clear.ensures.items

pub loop-feature-preserved : goal.loop-feature-preserved
loop-feature-preserved c =
    let features = c.args.features.now in
    let k = c.loop-feature.feature-index in
    c.in_ok-count_segment.ensures (take k features) c.loop-feature.invariant ∙ ap marks_of (sym (take_more features k 0 c.loop-feature-test.true))

pub returns : goal.returns
returns c = c.loop-feature.invariant ∙ ap marks_of (take_all c.loop-feature.feature-index c.args.features.now c.loop-feature-test.false)
