use Rattle.std.proofs.Common.{◌≡◌, ◌+◌, List, length, sym, ◌∙◌, ap, subst, arith}
use Rattle.std.specs.Prelude.{None, Some, find, option_map}
use Rattle.std.proofs.lemmas.Result.{IfErr-weaker}
use Rattle.loc_spec_plane.specs.{Points.Point, Rings.Rings}
use Rattle.loc_spec_plane.specs.Tables.{Table, corner, corner_numbers, edge, edge_numbers}
use Rattle.loc_spec_valid.specs.Breaches.{IsBreachOf, feature_rings, first_pair, is_pinch, is_twice, pinch, ring_numbers}
use Rattle.loc_faces.specs.Subdivision.{face_at, next_at}
use Rattle.loc_valid.specs.Judged.{IsRefusedFeature, IsRefusedLegend}
use Rattle.loc_valid.proofs.Found.{none_of, not_once, not_unpinched, refused_by_legend, uncrossed}
use Rattle.loc_valid.proofs.Order.{none_twice, pinch_first, pinches, twice_first, unpinched}
use Rattle.loc_valid.proofs.Within.{pair_within}
use Rattle.loc_valid.proofs.judging.judge_calm.Goals as goal

pub returns-in-Some-clause-breach : goal.returns-in-Some-clause-breach
returns-in-Some-clause-breach c =
    let polygons = c.args.feature.now.polygons in
    twice_first polygons c.requires.segments (uncrossed polygons c.args.table.now c.requires.of_rings c.requires.apart) c.in-Some.edge
    (subst (λ (s : Table). option_map (edge s) (find (is_twice polygons s) (edge_numbers s)) ≡ c.args.twice) c.requires.of_rings c.requires.twice ∙ c.in-Some.is)

pub returns-in-Some-clause-few_covers : goal.returns-in-Some-clause-few_covers
returns-in-Some-clause-few_covers c = λ many.
    (let polygons = c.args.feature.now.polygons in
    not_once polygons c.in-Some.edge
    (subst (λ (s : Table). option_map (edge s) (find (is_twice polygons s) (edge_numbers s)) ≡ c.args.twice) c.requires.of_rings c.requires.twice ∙ c.in-Some.is)
    many.unpinched.once)

pub overflow_add-result : goal.overflow_add-result
overflow_add-result c =
    let polygons = c.args.feature.now.polygons in
    let t = c.args.table.now in
    let within = pair_within (is_pinch polygons t) (length t.corners) (length (feature_rings polygons)) (c.in-Some-2.ring, c.in-Some-2.corner) (sym c.in_ok-ring.ensures ∙ c.in-Some-2.is) in
    omega (arith, within.0, ap (λ (ps : List Rings). length (feature_rings ps)) c.rings.ensures, c.len-count.ensures.value, c.len-count.ensures.within)

pub corner-requires : goal.corner-requires
corner-requires c =
    let polygons = c.args.feature.now.polygons in
    let t = c.args.table.now in
    (pair_within (is_pinch polygons t) (length t.corners) (length (feature_rings polygons)) (c.in-Some-2.ring, c.in-Some-2.corner) (sym c.in_ok-ring.ensures ∙ c.in-Some-2.is)).1

pub returns-in-Some-2-clause-breach : goal.returns-in-Some-2-clause-breach
returns-in-Some-2-clause-breach c =
    let polygons = c.args.feature.now.polygons in
    let t = c.args.table.now in
    let once = none_twice polygons (subst (λ (s : Table). option_map (edge s) (find (is_twice polygons s) (edge_numbers s)) ≡ c.args.twice) c.requires.of_rings c.requires.twice ∙ none_of c.args.twice c.in_default.not-Some) in
    let found : pinches polygons ≡ Some (c.in-Some-2.ring, c.in-Some-2.corner) = ap (λ (s : Table). first_pair (is_pinch polygons s) (ring_numbers polygons) (corner_numbers s)) (sym c.requires.of_rings) ∙ (sym c.in_ok-ring.ensures ∙ c.in-Some-2.is) in
    subst (λ (p : Point). IsBreachOf next_at face_at polygons (Some (pinch (c.in-Some-2.ring + 1) p))) (sym (c.corner.ensures ∙ ap (λ (s : Table). corner s c.in-Some-2.corner) c.requires.of_rings))
    (pinch_first polygons c.requires.segments (uncrossed polygons t c.requires.of_rings c.requires.apart) once (c.in-Some-2.ring, c.in-Some-2.corner) found)

pub returns-in-Some-2-clause-few_covers : goal.returns-in-Some-2-clause-few_covers
returns-in-Some-2-clause-few_covers c = λ many.
    (let polygons = c.args.feature.now.polygons in
    not_unpinched polygons (c.in-Some-2.ring, c.in-Some-2.corner)
    (ap (λ (s : Table). first_pair (is_pinch polygons s) (ring_numbers polygons) (corner_numbers s)) (sym c.requires.of_rings) ∙ (sym c.in_ok-ring.ensures ∙ c.in-Some-2.is))
    many.unpinched.unpinched)

pub judge_unpinched-requires-clause-unpinched : goal.judge_unpinched-requires-clause-unpinched
judge_unpinched-requires-clause-unpinched c =
    let polygons = c.args.feature.now.polygons in
    let t = c.args.table.now in
    unpinched polygons c.requires.segments (uncrossed polygons t c.requires.of_rings c.requires.apart)
    (none_twice polygons (subst (λ (s : Table). option_map (edge s) (find (is_twice polygons s) (edge_numbers s)) ≡ c.args.twice) c.requires.of_rings c.requires.twice ∙ none_of c.args.twice c.in_default.not-Some))
    (ap (λ (s : Table). first_pair (is_pinch polygons s) (ring_numbers polygons) (corner_numbers s)) (sym c.requires.of_rings) ∙ (sym c.in_ok-ring.ensures ∙ none_of c.in_ok-ring.field-0 c.in_default-2.not-Some))

pub returns-clause-refused : goal.returns-clause-refused
returns-clause-refused c =
    let polygons = c.args.feature.now.polygons in
    let t = c.args.table.now in
    let once = none_twice polygons (subst (λ (s : Table). option_map (edge s) (find (is_twice polygons s) (edge_numbers s)) ≡ c.args.twice) c.requires.of_rings c.requires.twice ∙ none_of c.args.twice c.in_default.not-Some) in
    let calm : pinches polygons ≡ None = ap (λ (s : Table). first_pair (is_pinch polygons s) (ring_numbers polygons) (corner_numbers s)) (sym c.requires.of_rings) ∙ (sym c.in_ok-ring.ensures ∙ none_of c.in_ok-ring.field-0 c.in_default-2.not-Some) in
    IfErr-weaker c.judge_unpinched.result (IsRefusedLegend t) (IsRefusedFeature polygons)
    (refused_by_legend polygons t c.requires.of_rings (unpinched polygons c.requires.segments (uncrossed polygons t c.requires.of_rings c.requires.apart) once calm) c.requires.few_pieces)
    c.judge_unpinched.ensures.refused
