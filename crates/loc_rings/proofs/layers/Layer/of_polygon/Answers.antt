use Rattle.std.proofs.Common.{◌≡◌, [], ◌∷◌, ◌++◌, length, slice_range, get_or, ◌∙◌, ap, ap₂, arith}
use Rattle.std.specs.List.{sum_by}
use Rattle.std.proofs.lemmas.List.{append-nil}
use Rattle.loc_spec_text.specs.Reading.{all_rings}
use Rattle.loc_rings.specs.{Layers.layer_points, Layers.point_count, Values.Feature, Values.unnamed}
use Rattle.loc_rings.proofs.Lone.{own_rings, range_points}
use Rattle.loc_rings.proofs.layers.Layer.of_polygon.Goals as goal

pub add-requires-clause-few_points : goal.add-requires-clause-few_points
add-requires-clause-few_points c =
    let polygons = c.args.feature.now.polygons in
    let part = slice_range (all_rings c.rings-rings.result.now) c.polygon-first.result.0 c.polygon-first.result.1 in
    let none : layer_points c.new-layer.result ≡ 0 = ap layer_points c.new-layer.ensures in
    let own : point_count c.in_ok-copied.field-0 ≡ sum_by length part = ap point_count c.in_ok-copied.ensures ∙ ap (sum_by length) (append-nil part) in
    let all : sum_by length (all_rings c.rings-rings.result.now) ≡ point_count c.args.feature.now = ap (λ ps. sum_by length (all_rings ps)) c.rings-rings.ensures in
    omega (arith, none, own, all, range_points (all_rings c.rings-rings.result.now) c.polygon-first.result.0 c.polygon-first.result.1, c.requires.few)

pub returns : goal.returns
returns c =
    c.in_ok-add.ensures.ok
    ∙ (ap (λ fs. fs ++ c.in_ok-copied.field-0 ∷ []) c.new-layer.ensures
    ∙ ap (λ (f : Feature). f ∷ []) (c.in_ok-copied.ensures
    ∙ ap unnamed (ap₂ (slice_range (all_rings c.rings-rings.result.now)) c.polygon-first.ensures.first c.polygon-first.ensures.past
    ∙ (own_rings c.rings-rings.result.now c.args.n (omega (arith, ap length c.rings-rings.ensures, c.requires.in_range)) ∙ ap (λ ps. get_or ps c.args.n []) c.rings-rings.ensures))))
