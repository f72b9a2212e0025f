use Rattle.std.proofs.Common.{◌≡◌, ◌+◌, ◌-◌, ◌++◌, ◌∷◌, [], sym, ◌∙◌, ap, arith}
use Rattle.std.specs.List.{range_with_len}
use Rattle.loc_half.proofs.Corners.{are_edges_at, range_more}
use Rattle.loc_half.proofs.turns.put_edges.Goals as goal

pub loop-edge-init : goal.loop-edge-init
loop-edge-init c =
    let first = c.beginning-first.result.0 in
    let none : 0 ≡ c.beginning-first.result.0 - c.beginning-first.result.0 = omega arith in
    record { from = omega arith; listed = c.clear.ensures.items ∙ ap (range_with_len first) none }

pub loop-edge-preserved : goal.loop-edge-preserved
loop-edge-preserved c =
    let first = c.beginning-first.result.0 in
    let edge = c.loop-edge.edge in
    let from = c.loop-edge.invariant.from in
    let more : (c.loop-edge.edge + 1) - c.beginning-first.result.0 ≡ (c.loop-edge.edge - c.beginning-first.result.0) + 1 = omega (arith, from) in
    let last : c.beginning-first.result.0 + (c.loop-edge.edge - c.beginning-first.result.0) ≡ c.loop-edge.edge = omega (arith, from) in
    record {
      from = omega (arith, from);
      listed = c.in_ok-push.ensures.items ∙ (ap (λ es. es ++ edge ∷ []) c.loop-edge.invariant.listed ∙ sym (ap (range_with_len first) more ∙ range_more first (edge - first) edge last));
    }

pub returns : goal.returns
returns c =
    let t = c.args.table.now in
    let first = c.beginning-first.result.0 in
    let past = c.beginning-first.result.1 in
    let end : c.loop-edge.edge ≡ c.beginning-first.result.1 = omega (arith, c.loop-edge-test.false, c.loop-edge.auto.edge-end, c.beginning-first.ensures.in_order) in
    are_edges_at t c.law.ensures.in_order c.args.corner first past c.beginning-first.ensures c.extend_from_slice.new.self.items
    (c.in_ok-extend_from_slice.ensures.items ∙ (ap (λ es. es ++ c.ending.result.now) (c.loop-edge.invariant.listed ∙ ap (λ n. range_with_len first (n - first)) end) ∙ ap (λ es. range_with_len first (past - first) ++ es) c.ending.ensures))
