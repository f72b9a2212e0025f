use Rattle.std.proofs.Common.{List, ◌≡◌, ◌+◌, [], ◌∷◌, ◌++◌, length, take, sym, ◌∙◌, ap, ap₂, arith}
use Rattle.std.specs.List.{sum_by}
use Rattle.std.proofs.lemmas.List.{length-map, length-take-le}
use Rattle.std.proofs.lemmas.List.Sums.{sum_by-cons, sum_by-take-le}
use Rattle.loc_spec_plane.specs.Rings.{Ring}
use Rattle.loc_spec_text.specs.Reading.{all_rings}
use Rattle.loc_rings.specs.{Layers.layer_points, Layers.point_count, Values.Feature, Values.unnamed}
use Rattle.loc_rings.proofs.{Lone.lone_more, Lone.lone_points, Points.points_to}
use Rattle.loc_rings.proofs.layers.Layer.of_rings.Goals as goal

pub loop-n-init : goal.loop-n-init
loop-n-init c = (c.new-layer.ensures, omega arith)

pub add-requires-clause-few_features : goal.add-requires-clause-few_features
add-requires-clause-few_features c =
    let rings = all_rings c.rings-rings.result.now in
    let many : length c.loop-n.layer ≡ length (take c.loop-n.n rings) = ap length c.loop-n.invariant.0 ∙ length-map (take c.loop-n.n rings) (λ (ring : Ring). unnamed (ring ∷ [])) in
    let all : sum_by length rings ≡ point_count c.args.feature.now = ap (λ ps. sum_by length (all_rings ps)) c.rings-rings.ensures in
    let before = length-take-le c.loop-n.n rings (omega (arith, c.len-n-end.ensures.value, c.loop-n-test.true)) in
    omega (arith, many, all, before, sum_by-take-le length rings (c.loop-n.n + 1), points_to rings c.loop-n.n c.ring.result.now c.ring.ensures.value, c.loop-n.invariant.1, c.ring.ensures.closed.long, c.requires)

pub add-requires-clause-few_points : goal.add-requires-clause-few_points
add-requires-clause-few_points c =
    let rings = all_rings c.rings-rings.result.now in
    let before : layer_points c.loop-n.layer ≡ sum_by length (take c.loop-n.n rings) = ap layer_points c.loop-n.invariant.0 ∙ lone_points (take c.loop-n.n rings) in
    let one : point_count c.in_ok-lone.field-0 ≡ length c.ring.result.now = ap point_count c.in_ok-lone.ensures ∙ (sum_by-cons length c.ring.result.now [] ∙ omega arith) in
    let all : sum_by length rings ≡ point_count c.args.feature.now = ap (λ ps. sum_by length (all_rings ps)) c.rings-rings.ensures in
    omega (arith, before, one, all, sum_by-take-le length rings (c.loop-n.n + 1), points_to rings c.loop-n.n c.ring.result.now c.ring.ensures.value, c.requires)

pub loop-n-preserved : goal.loop-n-preserved
loop-n-preserved c =
    let rings = all_rings c.rings-rings.result.now in (
      c.in_ok-add.ensures.ok ∙ (ap₂ (λ (fs : List Feature) (f : Feature). fs ++ f ∷ []) c.loop-n.invariant.0 c.in_ok-lone.ensures ∙ sym (lone_more rings c.loop-n.n c.ring.result.now c.ring.ensures.value)),
      omega (arith, points_to rings c.loop-n.n c.ring.result.now c.ring.ensures.value, c.loop-n.invariant.1, c.ring.ensures.closed.long),
    )
