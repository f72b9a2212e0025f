use Rattle.std.proofs.Common.{◌≡◌, Bool, true, length, ◌<◌, ◌∙◌, ap, subst}
use Rattle.std.proofs.lemmas.Bool.{and_parts, ltb-true}
use Rattle.loc_spec_plane.specs.Points.{Edge, Point, is_on, is_above, is_below}
use Rattle.loc_spec_plane.specs.{Places.alive, Places.is_edge, Tables.edge}
use Rattle.loc_laws_order.proofs.TableOrder.{edge_up, different}
use Rattle.loc_edges.specs.Placing.{hits, deciding_end}
use Rattle.loc_edges.proofs.Hits.{on-hits, above-misses, below-misses, hits-touch}
use Rattle.loc_edges.proofs.ranks.Ranks.placing.Goals as goal
use Rattle.loc_edges.proofs.ranks.Ranks.placing.Goals.{In-On}

-- a test of two edges, at equal edges
same_test : (test : Edge → Point → Bool) (first second a b : Edge) (p : Point) → first ≡ a → second ≡ b → p ≡ deciding_end first second → test first p ≡ true → test a (deciding_end a b) ≡ true
same_test test first second a b p is_a is_b is_p h =
    let P : Edge → Edge → Type 0 = λ d e. test d (deciding_end d e) ≡ true in
    let here : test first (deciding_end first second) ≡ true = subst (λ q. test first q ≡ true) is_p h in
    subst (λ d. P d b) is_a (subst (P first) is_b here)

-- the answer is that of the deciding end
hit : (c : In-On) → hits (edge c.args.self.now c.args.a) (edge c.args.self.now c.args.b) ≡ true
hit c =
    let t = c.args.self.now in
    let a = edge t c.args.a in
    let b = edge t c.args.b in
    on-hits a b (and_parts (is_edge t c.args.a) (alive a b.lo) c.requires.first_alive).1
    (same_test is_on _ _ a b _ (c.edge-first.ensures ∙ ap (λ s. edge s c.args.a) c.self.view_is) (c.edge-second.ensures ∙ ap (λ s. edge s c.args.b) c.self.view_is) c.end_to_place.ensures c.in-On.ensures)

pub returns-in-On-clause-value : goal.returns-in-On-clause-value
returns-in-On-clause-value c = hit c

pub returns-in-On-clause-touching : goal.returns-in-On-clause-touching
returns-in-On-clause-touching c =
    let t = c.args.self.now in
    let ok = c.law.ensures.in_order in
    let fits : c.args.a < length t.ends = ltb-true c.args.a (length t.ends) (and_parts (is_edge t c.args.a) (alive (edge t c.args.a) (edge t c.args.b).lo) c.requires.first_alive).0 in
    hits-touch (edge t c.args.a) (edge t c.args.b) (edge_up t ok c.args.a fits) (edge_up t ok c.args.b c.requires.second_in_range) (different t ok c.args.a c.args.b fits c.requires.second_in_range c.requires.different) (hit c)

pub returns-in-Above-clause-value : goal.returns-in-Above-clause-value
returns-in-Above-clause-value c =
    let a = edge c.args.self.now c.args.a in
    let b = edge c.args.self.now c.args.b in
    let side = same_test is_above _ _ a b _ (c.edge-first.ensures ∙ ap (λ s. edge s c.args.a) c.self.view_is) (c.edge-second.ensures ∙ ap (λ s. edge s c.args.b) c.self.view_is) c.end_to_place.ensures c.in-Above.ensures in
    (above-misses a b side, side)

pub returns-in-Below-clause-value : goal.returns-in-Below-clause-value
returns-in-Below-clause-value c =
    let a = edge c.args.self.now c.args.a in
    let b = edge c.args.self.now c.args.b in
    let side = same_test is_below _ _ a b _ (c.edge-first.ensures ∙ ap (λ s. edge s c.args.a) c.self.view_is) (c.edge-second.ensures ∙ ap (λ s. edge s c.args.b) c.self.view_is) c.end_to_place.ensures c.in-Below.ensures in
    (below-misses a b side, side)
