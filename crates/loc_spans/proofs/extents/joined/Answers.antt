use Rattle.std.proofs.Common.{sym, ◌∙◌, ap, ap₂}
use Rattle.std.proofs.lemmas.Bool.{both_ways, cond-true}
use Rattle.loc_spec_plane.specs.Points.{Edge, same_point, up_to}
use Rattle.loc_laws_order.proofs.Sides.{before-differ}
use Rattle.loc_spans.proofs.Widening.{goes_up}
use Rattle.loc_spans.proofs.extents.joined.Goals as goal

pub unreachable-requires : goal.unreachable-requires
unreachable-requires c =
    let u = goes_up c.earlier.result c.args.a.lo c.args.a.hi c.later.result (ap (up_to c.earlier.result) (sym c.lo.ensures) ∙ c.earlier.ensures.first) c.hi.ensures.goes_up (ap (λ q. up_to q c.later.result) (sym c.hi.ensures.value) ∙ c.later.ensures.first) in
    both_ways (same_point c.earlier.result c.later.result) (before-differ c.earlier.result c.later.result u) c.in-None.ensures.one_point

pub returns-clause-first : goal.returns-clause-first
returns-clause-first c =
    let u = goes_up c.earlier.result c.args.a.lo c.args.a.hi c.later.result (ap (up_to c.earlier.result) (sym c.lo.ensures) ∙ c.earlier.ensures.first) c.hi.ensures.goes_up (ap (λ q. up_to q c.later.result) (sym c.hi.ensures.value) ∙ c.later.ensures.first) in
    ap₂ up_to (ap (λ (e : Edge). e.lo) (c.in-Some.ensures.ends ∙ cond-true _ _ _ u)) (sym c.lo.ensures) ∙ c.earlier.ensures.first

pub returns-clause-second : goal.returns-clause-second
returns-clause-second c =
    let u = goes_up c.earlier.result c.args.a.lo c.args.a.hi c.later.result (ap (up_to c.earlier.result) (sym c.lo.ensures) ∙ c.earlier.ensures.first) c.hi.ensures.goes_up (ap (λ q. up_to q c.later.result) (sym c.hi.ensures.value) ∙ c.later.ensures.first) in
    ap₂ up_to (ap (λ (e : Edge). e.lo) (c.in-Some.ensures.ends ∙ cond-true _ _ _ u)) (sym c.lo-2.ensures) ∙ c.earlier.ensures.second

pub returns-clause-first_end : goal.returns-clause-first_end
returns-clause-first_end c =
    let u = goes_up c.earlier.result c.args.a.lo c.args.a.hi c.later.result (ap (up_to c.earlier.result) (sym c.lo.ensures) ∙ c.earlier.ensures.first) c.hi.ensures.goes_up (ap (λ q. up_to q c.later.result) (sym c.hi.ensures.value) ∙ c.later.ensures.first) in
    ap₂ up_to (sym c.hi.ensures.value) (ap (λ (e : Edge). e.hi) (c.in-Some.ensures.ends ∙ cond-true _ _ _ u)) ∙ c.later.ensures.first

pub returns-clause-second_end : goal.returns-clause-second_end
returns-clause-second_end c =
    let u = goes_up c.earlier.result c.args.a.lo c.args.a.hi c.later.result (ap (up_to c.earlier.result) (sym c.lo.ensures) ∙ c.earlier.ensures.first) c.hi.ensures.goes_up (ap (λ q. up_to q c.later.result) (sym c.hi.ensures.value) ∙ c.later.ensures.first) in
    ap₂ up_to (sym c.hi-2.ensures.value) (ap (λ (e : Edge). e.hi) (c.in-Some.ensures.ends ∙ cond-true _ _ _ u)) ∙ c.later.ensures.second
