use Rattle.std.proofs.Common.{◌++◌, ◌∷◌, [], ◌∙◌, ap, Vec, Global}
use Rattle.std.specs.List.{list_any}
use Rattle.std.proofs.{lemmas.Bool.both_ways, lemmas.List.take_all}
use Rattle.loc_spec_plane.specs.Points.{Point}
use Rattle.loc_laws_noding.specs.Laws.{ends_of}
use Rattle.loc_edges.proofs.Layers.{ends_more}
use Rattle.loc_edges.proofs.tables.ends.Goals as goal
use Rattle.loc_edges.proofs.tables.ends.Goals.{then-not-begins_again+in_ok-push, else-not-begins_again}

pub loop-n-preserved : goal.loop-n-preserved
loop-n-preserved c =
    let edges = c.args.edges.now in
    let n = c.loop-n.n in
    let e = c.index-edges-n.result in
    let points = c.loop-n.points.items in
    let grown = c.in_ok-push-2.ensures.items ∙ ap (λ p. c.if-not-begins_again.points.items ++ p ∷ []) c.hi.ensures.value in
    elim c.if-not-begins_again.branch [
      | then-not-begins_again+in_ok-push w ↦ ends_more edges n e c.begins_again.result points _ _ c.loop-n-test.true c.index-edges-n.is c.begins_again.ensures
          (λ _. ap (λ (v : Vec Point Global). v.items) w.points-is ∙ (w.in_ok-push.ensures.items ∙ ap (λ p. points ++ p ∷ []) w.lo.ensures))
          (λ yes. absurd (both_ways _ w.if-not-begins_again.true yes)) grown c.loop-n.invariant
      | else-not-begins_again w ↦ ends_more edges n e c.begins_again.result points _ _ c.loop-n-test.true c.index-edges-n.is c.begins_again.ensures
          (λ no. absurd (both_ways _ no w.if-not-begins_again.false))
          (λ _. ap (λ (v : Vec Point Global). v.items) w.points-is) grown c.loop-n.invariant
    ]

pub returns : goal.returns
returns c = λ test. c.loop-n.invariant test ∙ ap (λ es. list_any test (ends_of es)) (take_all c.loop-n.n c.args.edges.now c.loop-n-test.false)
