use Rattle.std.proofs.Common.{refl, sym, ◌∙◌, ap, subst, inl, inr, arith}
use Rattle.std.specs.Prelude.{Some, None}
use Rattle.loc_spec_plane.specs.{declared.Trap.Trap, declared.Place.TheVariants.Area, Places.IsPlace}
use Rattle.loc_traps.specs.Meaning.{row_of}
use Rattle.loc_trapdag.specs.Graphs.{Graph}
use Rattle.loc_trapdag.proofs.Descent.{step_read, piece_later, leaf_place}
use Rattle.loc_trapdag.proofs.index.TrapIndex.place.Goals as goal

pub down-smaller : goal.down-smaller
down-smaller bounds c =
    let piece = piece_later c.args.views.now c.args.self.now c.requires.graph c.down.n c.in-Some.step c.down.invariant.real (step_read c.args.views.now c.args.self.now c.requires.graph c.down.n c.down.invariant.real c.self.inside.cuts.items (ap (λ (v : Graph). v.cuts) c.self.view_is) c.index.result.now c.index.ensures (Some c.in-Some.step) c.in-Some.is) c.in-To.next c.in-To.ensures.turn.1 in
    omega (arith, piece.0, piece.1)

pub down-preserved : goal.down-preserved
down-preserved bounds c =
    let at = step_read c.args.views.now c.args.self.now c.requires.graph c.down.n c.down.invariant.real c.self.inside.cuts.items (ap (λ (v : Graph). v.cuts) c.self.view_is) c.index.result.now c.index.ensures (Some c.in-Some.step) c.in-Some.is in
    let more = c.in-To.ensures.counted in
    let few = c.in-To.ensures.few in
    record {
      real = (piece_later c.args.views.now c.args.self.now c.requires.graph c.down.n c.in-Some.step c.down.invariant.real at c.in-To.next c.in-To.ensures.turn.1).1;
      inside = c.in-To.ensures.turn.0;
      counted = (let so_far = c.down.invariant.counted in omega arith);
      few = λ stands. (let so_far = c.down.invariant.few stands in let up = stands.graph.later c.down.n c.in-To.next c.in-Some.step c.down.invariant.real at c.in-To.ensures.turn.1 in omega arith);
    }

pub returns-in-At-clause-within : goal.returns-in-At-clause-within
returns-in-At-clause-within bounds c =
    let at = step_read c.args.views.now c.args.self.now c.requires.graph c.down.n c.down.invariant.real c.self.inside.cuts.items (ap (λ (v : Graph). v.cuts) c.self.view_is) c.index.result.now c.index.ensures (Some c.in-Some.step) c.in-Some.is in
    let above = piece_later c.args.views.now c.args.self.now c.requires.graph c.down.n c.in-Some.step c.down.invariant.real at c.in-Some.step.split.above (inr (inl refl)) in
    let up = c.requires.graph.later c.down.n c.in-Some.step.split.above c.in-Some.step c.down.invariant.real at (inr (inl refl)) in
    let born = c.requires.graph.born c.in-Some.step.split.above above.1 in
    let so_far = c.down.invariant.few c.requires in
    omega (arith, c.requires.counted, c.in-At.ensures.few)

pub returns-clause-within : goal.returns-clause-within
returns-clause-within bounds c =
    let born = c.requires.graph.born c.down.n c.down.invariant.real in
    let so_far = c.down.invariant.few c.requires in
    omega (arith, c.requires.counted)

pub returns-clause-place : goal.returns-clause-place
returns-clause-place bounds c = subst (λ (x : Trap). IsPlace c.args.views.now c.args.p (Area x.bottom)) (sym (c.trap.ensures ∙ ap (λ (v : Graph). row_of v.map.rows c.down.n) c.self.view_is))
    (leaf_place c.args.views.now c.args.self.now c.requires c.down.n c.down.invariant.real (step_read c.args.views.now c.args.self.now c.requires.graph c.down.n c.down.invariant.real c.self.inside.cuts.items (ap (λ (v : Graph). v.cuts) c.self.view_is) c.index.result.now c.index.ensures None c.in_default.is) c.args.p c.down.invariant.inside)
