use Rattle.std.proofs.Common.{◌+◌, true, false, not, ap, sym, ◌∙◌, arith, length, append-nil}
use Rattle.loc_rings.specs.Layers.{layer_points, point_count}
use Rattle.loc_rings.proofs.Flags.{none, parted-all, parted-fit, parted-more, parted-place}
use Rattle.loc_rings.proofs.layers.Layer.parted.Goals as goal

pub loop-feature-init : goal.loop-feature-init
loop-feature-init c = record {
  kept = c.new-kept.ensures ∙ sym (none (λ b. b) c.args.keep.now);
  others = c.new-others.ensures ∙ sym (none not c.args.keep.now);
  all = cc;
}

pub bounds-keep-len : goal.bounds-keep-len
bounds-keep-len c = omega (arith, parted-place c.loop-feature.invariant c.in-Some.ensures.steps.0 c.requires)

pub add-requires-clause-few_points : goal.add-requires-clause-few_points
add-requires-clause-few_points c = omega (arith, ap layer_points c.self.view_is, c.self.invariant.0.few_points, parted-fit c.loop-feature.invariant c.in-Some.ensures.steps.0 c.requires point_count)

pub add-requires-else-keep-len-clause-few_features : goal.add-requires-else-keep-len-clause-few_features
add-requires-else-keep-len-clause-few_features c = omega (arith, ap length c.self.view_is, c.self.invariant.0.few_features, parted-place c.loop-feature.invariant c.in-Some.ensures.steps.0 c.requires)

pub add-requires-else-keep-len-clause-few_points : goal.add-requires-else-keep-len-clause-few_points
add-requires-else-keep-len-clause-few_points c = omega (arith, ap layer_points c.self.view_is, c.self.invariant.0.few_points, parted-fit c.loop-feature.invariant c.in-Some.ensures.steps.0 c.requires point_count)

pub loop-feature-preserved-in-Continue-1 : goal.loop-feature-preserved-in-Continue-1
loop-feature-preserved-in-Continue-1 c = parted-more c.loop-feature.invariant c.in-Some.ensures.steps.0 c.requires true (c.len.result + c.len-in-loop-feature.result) (omega arith) c.if-keep-len.true c.in_ok-add.ensures.ok (sym (append-nil c.loop-feature.others))

pub loop-feature-preserved : goal.loop-feature-preserved
loop-feature-preserved c = parted-more c.loop-feature.invariant c.in-Some.ensures.steps.0 c.requires false (c.len.result + c.len-in-loop-feature.result) (omega arith) c.if-keep-len.false (sym (append-nil c.loop-feature.kept)) c.in_ok-add-2.ensures.ok

pub returns-clause-kept : goal.returns-clause-kept
returns-clause-kept c = (parted-all c.loop-feature.invariant (omega (arith, c.in-None.ensures.steps.0))).0

pub returns-clause-others : goal.returns-clause-others
returns-clause-others c = (parted-all c.loop-feature.invariant (omega (arith, c.in-None.ensures.steps.0))).1
