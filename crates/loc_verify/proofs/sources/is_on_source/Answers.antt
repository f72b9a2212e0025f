use Rattle.std.proofs.Common.{◌≡◌, true, sym, ◌∙◌, ap, ap₂, rules}
use Rattle.std.proofs.lemmas.Bool.{both_ways}
use Rattle.loc_spec_plane.specs.Points.{Edge, before, lies_on, same_point}
use Rattle.loc_spec_plane.specs.Tables.{corner, edge}
use Rattle.loc_laws_order.proofs.{Sides.before-differ, TableOrder.corner_before}
use Rattle.loc_verify.proofs.sources.is_on_source.Goals as goal

pub returns-in-None : goal.returns-in-None
returns-in-None c =
    let t = c.args.table.now in
    let lower = corner t c.source-lower.result.0 in
    let upper = corner t c.source-lower.result.1 in
    let up : before lower upper ≡ true = corner_before t c.law.ensures.in_order c.source-lower.result.0 c.source-lower.result.1 c.source-lower.ensures.goes_up c.source-lower.ensures.in_range in
    absurd (both_ways (same_point lower upper) (before-differ lower upper up) (sym (ap₂ same_point c.corner.ensures c.corner-2.ensures) ∙ c.in-None.ensures.one_point))

pub returns-then-on : goal.returns-then-on
returns-then-on c =
    let upper : c.on-then-on.result ≡ lies_on c.in-Some.source (edge c.args.table.now c.args.edge).hi = c.on-then-on.ensures ∙ ap (lies_on c.in-Some.source) (c.hi.ensures.value ∙ ap (λ (d : Edge). d.hi) c.edge-then-on.ensures) in
    search rules
