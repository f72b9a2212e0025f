use Rattle.std.proofs.Common.{ℕ, ◌++◌, ◌∷◌, [], sym, ◌∙◌, ap, append-nil, Vec, Global}
use Rattle.std.proofs.lemmas.Bool.{cond-true, cond-false, not-true}
use Rattle.loc_spec_plane.specs.Points.{Edge, same_point}
use Rattle.loc_edges.specs.Tagged.{tagged_by}
use Rattle.loc_edges.proofs.Tagged.{ring_more, ring_all}
use Rattle.loc_edges.proofs.segments.add_ring.Goals as goal
use Rattle.loc_edges.proofs.segments.add_ring.Goals.{in-Some+in_ok-push, in_default}

pub loop-n-preserved : goal.loop-n-preserved
loop-n-preserved c =
    let a = c.index-ring-n.result in
    let b = c.index-ring-n-in-loop-n.result in
    let tagged = c.loop-n.tagged.items in
    ring_more c.args.ring.now c.args.feature c.loop-n.n a b tagged c.match-new.tagged.items _ c.loop-n.auto.n c.loop-n-test.true c.index-ring-n.is c.index-ring-n-in-loop-n.is (elim c.match-new.branch [
      | in-Some+in_ok-push w ↦
          ap (λ (v : Vec (Edge × ℕ) Global). v.items) w.tagged-is
          ∙ (w.in_ok-push.ensures.items
          ∙ ap (λ ss. tagged ++ tagged_by c.args.feature ss) (ap (λ s. s ∷ []) w.in-Some.ensures.ends ∙ sym (cond-false (same_point a b) _ _ (not-true (same_point a b) w.in-Some.ensures.two_points))))
      | in_default w ↦
          ap (λ (v : Vec (Edge × ℕ) Global). v.items) w.tagged-is
          ∙ sym (ap (λ ss. tagged ++ tagged_by c.args.feature ss) (cond-true (same_point a b) _ _ w.in_default.ensures.one_point) ∙ append-nil tagged)
    ]) c.loop-n.invariant

pub returns : goal.returns
returns c = ring_all c.args.ring.now c.args.feature c.loop-n.n c.loop-n.tagged.items _ c.loop-n-test.false c.loop-n.invariant
