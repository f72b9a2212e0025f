use Rattle.std.proofs.Common.{◌≡◌, ◌∙◌, Bool, ap, subst}
use Rattle.std.specs.Prelude.{if◌then◌else◌}
use Rattle.loc_spec_plane.specs.{Points.Edge, Points.same_point, Points.is_above, Places.lower}
use Rattle.loc_spec_plane.specs.Tables.{edge, hi_of}
use Rattle.loc_laws_order.proofs.TableOrder.{same_corner}
use Rattle.loc_edges.proofs.ranks.Ranks.ends_above.Goals as goal

-- equal upper ends are equal corners
pub returns : goal.returns
returns c =
    let t = c.args.self.now in
    let ok = c.law.ensures.in_order in
    let a = edge t c.args.a in
    let b = edge t c.args.b in
    let is_a : c.edge.result ≡ a = c.edge.ensures ∙ ap (λ s. edge s c.args.a) c.self.view_is in
    let is_b : c.edge-2.result ≡ b = c.edge-2.ensures ∙ ap (λ s. edge s c.args.b) c.self.view_is in
    let P : Edge → Edge → Type 0 = λ d e. c.ends_above.result ≡ (if same_point e.hi d.hi then lower d e else is_above d e.hi) in
    let by_points : P a b = subst (λ d. P d b) is_a (subst (P c.edge.result) is_b c.ends_above.ensures) in
    by_points ∙ ap (λ (same : Bool). if same then lower a b else is_above a b.hi)
    (same_corner t ok (hi_of t c.args.b) (hi_of t c.args.a) (ok.goes_up c.args.b c.requires.second_in_range).1 (ok.goes_up c.args.a c.requires.first_in_range).1)
