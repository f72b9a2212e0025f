use Rattle.std.proofs.Common.{◌∙◌, length, map, sym, ap, arith}
use Rattle.std.specs.Prelude.{slice_index_or}
use Rattle.loc_spans.specs.Boxes.{BoxedState, Kept}
use Rattle.loc_spans.proofs.Idle.{held, idle_past, idle_up_to, many}
use Rattle.loc_spans.proofs.boxes.Boxed.near.Goals as goal

pub returns-then-is_between-clause-near : goal.returns-then-is_between-clause-near
returns-then-is_between-clause-near c = λ layer is.
    let b = c.args.self.now in
    let same = c.self.invariant ∙ ap (λ s. map (λ (box : Kept). box.0) s) (ap (λ (s : BoxedState). s.boxes) c.self.view_is) in
    (omega (arith, c.loop-k.invariant.past, c.in-Some.ensures.0), omega (arith, c.in-Some.ensures.1, many b c.self.inside.moments same), idle_up_to layer b is c.args.p c.self.inside.moments same c.args.from c.loop-k.at c.in-Some.k (c.loop-k.invariant.idle layer is) c.in-Some.ensures.3)

pub returns-then-is_between-clause-holds : goal.returns-then-is_between-clause-holds
returns-then-is_between-clause-holds c = λ d.
    let b = c.args.self.now in
    let same = c.self.invariant ∙ ap (λ s. map (λ (box : Kept). box.0) s) (ap (λ (s : BoxedState). s.boxes) c.self.view_is) in
    let here = c.index.ensures ∙ ap (λ bs. slice_index_or bs c.in-Some.k c.index.result.now) (ap (λ (s : BoxedState). s.boxes) c.self.view_is) in
    held b c.self.inside.moments same c.args.p c.in-Some.k c.index.result.now d (omega (arith, c.in-Some.ensures.1, many b c.self.inside.moments same)) here c.in-Some.ensures.2 (sym c.is_between.ensures ∙ c.if-is_between.true)

pub loop-k-preserved : goal.loop-k-preserved
loop-k-preserved c = record {
  past = omega (arith, c.loop-k.invariant.past, c.in-Some.ensures.0);
  idle = λ layer is.
      let b = c.args.self.now in
      let same = c.self.invariant ∙ ap (λ s. map (λ (box : Kept). box.0) s) (ap (λ (s : BoxedState). s.boxes) c.self.view_is) in
      idle_past layer b is c.args.p c.self.inside.moments same c.args.from c.in-Some.k c.index.result.now
      (idle_up_to layer b is c.args.p c.self.inside.moments same c.args.from c.loop-k.at c.in-Some.k (c.loop-k.invariant.idle layer is) c.in-Some.ensures.3)
      (omega (arith, c.in-Some.ensures.1, many b c.self.inside.moments same))
      (c.index.ensures ∙ ap (λ bs. slice_index_or bs c.in-Some.k c.index.result.now) (ap (λ (s : BoxedState). s.boxes) c.self.view_is))
      (sym c.is_between.ensures ∙ c.if-is_between.false);
}

pub returns-clause-near : goal.returns-clause-near
returns-clause-near c = λ layer is.
    let b = c.args.self.now in
    let same = c.self.invariant ∙ ap (λ s. map (λ (box : Kept). box.0) s) (ap (λ (s : BoxedState). s.boxes) c.self.view_is) in
    λ k d le lt fits. idle_up_to layer b is c.args.p c.self.inside.moments same c.args.from c.loop-k.at (length c.self.inside.moments) (c.loop-k.invariant.idle layer is) c.in_default.ensures k d le (omega (arith, lt, many b c.self.inside.moments same)) fits
