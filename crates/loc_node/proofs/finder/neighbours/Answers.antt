use Rattle.std.proofs.Common.{◌<◌, ◌≤◌, ◌∙◌, length, ap, arith, Vec, Global}
use Rattle.std.proofs.lemmas.Bool.{both_ways}
use Rattle.loc_spec_plane.specs.Points.{Edge}
use Rattle.loc_laws_order.proofs.Sides.{before-differ}
use Rattle.loc_node.proofs.Neighbours.{step, step_up}
use Rattle.loc_node.proofs.finder.neighbours.Goals as goal
use Rattle.loc_node.proofs.finder.neighbours.Goals.{in-Some+in_ok-push, in_default}

pub loop-i-preserved : goal.loop-i-preserved
loop-i-preserved c =
    let ps = c.args.points.now in
    let i = c.loop-i.i in
    let a = c.index-points-i.result in
    let b = c.index-points-i-in-loop-i.result in
    let from : 1 ≤ i = omega (arith, c.loop-i.auto.i) in
    let to : i < length ps = omega (arith, c.loop-i-test.true) in
    elim c.match-new.branch [
      | in-Some+in_ok-push w ↦ ap (λ (v : Vec Edge Global). v.items) w.edges-is ∙ (w.in_ok-push.ensures.items ∙ step ps i a b c.loop-i.edges.items w.in-Some.edge c.requires.in_order from to c.index-points-i.is c.index-points-i-in-loop-i.is w.in-Some.ensures.ends c.loop-i.invariant)
      | in_default w ↦ absurd (both_ways _ (before-differ a b (step_up ps i a b c.requires.in_order from to c.index-points-i.is c.index-points-i-in-loop-i.is)) w.in_default.ensures.one_point)
    ]
