use Rattle.std.proofs.Common.{◌≡◌, ◌+◌, ◌++◌, [], ◌∷◌, length, take, sym, ◌∙◌, ap, subst, arith}
use Rattle.std.specs.Prelude.{All}
use Rattle.std.proofs.lemmas.List.{length-map, length-take-le, map_more, take_all}
use Rattle.std.proofs.lemmas.List.Elements.{All-push}
use Rattle.loc_spec_plane.specs.Rings.{segments}
use Rattle.loc_spec_text.specs.Reading.{all_rings}
use Rattle.loc_rings.specs.Values.{IsRing, rings_of}
use Rattle.loc_edges.specs.{Layers.layer_rings, Tagged.tagged_by, Tagged.tagged_from}
use Rattle.loc_edges.proofs.Tagged.{tagged_more}
use Rattle.loc_edges.proofs.segments.tagged_segments.Goals as goal

pub loop-n-preserved : goal.loop-n-preserved
loop-n-preserved c =
    let features = c.args.features.now in
    let feature = c.index-features-n.result in
    let n = c.loop-n.n in
    let before = layer_rings (take n features) in
    let more : layer_rings (take (c.loop-n.n + 1) c.args.features.now) ≡ layer_rings (take c.loop-n.n c.args.features.now) ++ rings_of c.index-features-n.result ∷ [] = map_more rings_of features n feature c.loop-n-test.true ∙ ap (λ f. before ++ rings_of f ∷ []) (sym c.index-features-n.is) in
    let count : 0 + length (layer_rings (take c.loop-n.n c.args.features.now)) ≡ c.loop-n.n = omega (arith, length-map (take n features) rings_of, length-take-le n features (omega (arith, c.loop-n-test.true))) in (
      subst (All (All IsRing)) (sym more) (All-push (All IsRing) before (rings_of feature) c.loop-n.invariant.0 (subst (λ ps. All IsRing (all_rings ps)) c.rings.ensures c.in_ok-add_rings.ensures.closed)),
      c.in_ok-add_rings.ensures.added
          ∙ (ap (λ ts. ts ++ tagged_by n (segments (all_rings c.rings.result.now))) c.loop-n.invariant.1
          ∙ (ap (λ ps. tagged_from 0 before ++ tagged_by n (segments (all_rings ps))) c.rings.ensures
          ∙ (ap (λ k. tagged_from 0 before ++ tagged_by k (segments (rings_of feature))) (sym count)
          ∙ (sym (tagged_more 0 before (rings_of feature)) ∙ ap (tagged_from 0) (sym more))))),
    )

pub returns-clause-value : goal.returns-clause-value
returns-clause-value c = c.loop-n.invariant.1 ∙ ap (λ fs. tagged_from 0 (layer_rings fs)) (take_all c.loop-n.n c.args.features.now c.loop-n-test.false)

pub returns-clause-closed : goal.returns-clause-closed
returns-clause-closed c = subst (λ fs. All (All IsRing) (layer_rings fs)) (take_all c.loop-n.n c.args.features.now c.loop-n-test.false) c.loop-n.invariant.0
