use Rattle.std.proofs.Common.{◌-◌, ◌∙◌, sym, ap, arith}
use Rattle.std.proofs.lemmas.List.{get_or_default}
use Rattle.loc_spec_plane.specs.Points.{Edge}
use Rattle.loc_laws_order.proofs.Sides.{same_point-true}
use Rattle.loc_edges.proofs.tables.begins_again.Goals as goal

pub returns-then-n-gt0 : goal.returns-then-n-gt0
returns-then-n-gt0 c =
    let edges = c.args.edges.now in
    let n = c.args.n in
    let here = c.index-edges-n.result in
    let before = c.index-edges-n-then-n-gt0.result in
    λ yes. (
      c.if-n-gt0.true,
      λ d. ap (λ (e : Edge). e.lo) (get_or_default edges n d here c.requires.in_range ∙ sym c.index-edges-n.is)
          ∙ (sym c.lo.ensures ∙ (same_point-true c.lo.result c.lo-then-n-gt0.result (sym c.eq.ensures ∙ yes) ∙ (c.lo-then-n-gt0.ensures
          ∙ ap (λ (e : Edge). e.lo) (c.index-edges-n-then-n-gt0.is ∙ get_or_default edges (n - 1) before d (omega (arith, c.requires.in_range)))))),
    )
