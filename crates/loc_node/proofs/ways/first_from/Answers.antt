use Rattle.std.proofs.Common.{◌+◌, ◌-◌, ◌/◌, ◌<◌, length, sym, ◌∙◌, ap, arith}
use Rattle.std.proofs.{lemmas.Bool.both_ways, lemmas.Bool.false_from_ne_true, lemmas.List.get_or_default}
use Rattle.loc_node.specs.Ways.{way_before}
use Rattle.loc_node.proofs.Along.{earlier_before}
use Rattle.loc_node.proofs.ways.first_from.Goals as goal

pub loop-low-preserved : goal.loop-low-preserved
loop-low-preserved c =
    let order = c.args.order.now in
    let place = c.args.place.now in
    let r = c.index-order-middle.result in
    let middle = c.loop-low.low + (c.loop-low.high - c.loop-low.low) / 2 in
    let fits : c.loop-low.low + (c.loop-low.high - c.loop-low.low) / 2 < length c.args.order.now = omega (arith, c.loop-low-test.true, c.loop-low.invariant.within) in
    record {
      bounds = omega arith;
      within = omega (arith, fits);
      passed = c.loop-low.invariant.passed;
      from = λ k d ge lt. false_from_ne_true _ (λ h. both_ways (way_before r place) (sym c.stands_before.ensures ∙ c.if-stands_before.false)
          (ap (λ x. way_before x place) (c.index-order-middle.is ∙ get_or_default order middle r d fits) ∙ earlier_before order c.requires.sorted place middle k d ge lt h));
    }

pub loop-low-preserved-then-stands_before : goal.loop-low-preserved-then-stands_before
loop-low-preserved-then-stands_before c =
    let order = c.args.order.now in
    let place = c.args.place.now in
    let r = c.index-order-middle.result in
    let middle = c.loop-low.low + (c.loop-low.high - c.loop-low.low) / 2 in
    let fits : c.loop-low.low + (c.loop-low.high - c.loop-low.low) / 2 < length c.args.order.now = omega (arith, c.loop-low-test.true, c.loop-low.invariant.within) in
    record {
      bounds = omega (arith, c.loop-low-test.true);
      within = c.loop-low.invariant.within;
      passed = λ k d lt. earlier_before order c.requires.sorted place k middle d (omega (arith, lt)) fits (ap (λ x. way_before x place) (sym (c.index-order-middle.is ∙ get_or_default order middle r d fits)) ∙ (sym c.stands_before.ensures ∙ c.if-stands_before.true));
      from = c.loop-low.invariant.from;
    }
