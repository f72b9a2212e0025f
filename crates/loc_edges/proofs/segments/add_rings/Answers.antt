use Rattle.loc_spec_text.specs.Reading.{all_rings}
use Rattle.std.proofs.Common.{◌≡◌, ◌+◌, List, [], ◌∷◌, ◌++◌, take, get_or, sym, ◌∙◌, ap, subst, inl, inr, arith}
use Rattle.std.proofs.{lemmas.Bool.cases_lt, lemmas.Option.get_or_from_slice_get, lemmas.Option.slice_get_within}
use Rattle.std.proofs.lemmas.List.{append_assoc, map-append, take_more, flat_map_more}
use Rattle.loc_rings.specs.Values.{IsRing}
use Rattle.loc_spec_plane.specs.{Rings.Ring, Rings.ring_segments, Rings.segments, Points.Edge}
use Rattle.loc_edges.specs.Tagged.{tagged_by}
use Rattle.loc_edges.proofs.segments.add_rings.Goals as goal

pub loop-n-preserved : goal.loop-n-preserved
loop-n-preserved c =
    let rings : List Ring = (all_rings c.args.rings.now) in
    let ring : Ring = c.ring.result.now in
    let one_more : take (c.loop-n.n + 1) rings ≡ take c.loop-n.n rings ++ ring ∷ [] =
    take_more rings c.loop-n.n ring (slice_get_within rings c.loop-n.n ring c.ring.ensures.value) ∙ ap (λ (r : Ring). take c.loop-n.n rings ++ r ∷ []) (get_or_from_slice_get rings c.loop-n.n ring ring c.ring.ensures.value) in (
      c.in_ok-add_ring.ensures
          ∙ (ap (λ ts. ts ++ tagged_by c.args.feature (ring_segments ring)) c.loop-n.invariant.0
          ∙ (append_assoc c.args.tagged.now.items (tagged_by c.args.feature (segments (take c.loop-n.n rings))) (tagged_by c.args.feature (ring_segments ring))
          ∙ ap (λ ts. c.args.tagged.now.items ++ ts) (sym (map-append (λ (s : Edge). (s, c.args.feature)) (segments (take c.loop-n.n rings)) (ring_segments ring)) ∙ ap (tagged_by c.args.feature) (flat_map_more ring_segments [] (take c.loop-n.n rings) ring ∙ ap segments (sym one_more))))),
      λ k d lt. (elim (cases_lt k c.loop-n.n) [
        | inl before ↦ c.loop-n.invariant.1 k d before
        | inr not_before ↦ (let same : k ≡ c.loop-n.n = omega arith in subst IsRing (sym (ap (λ n. get_or rings n d) same ∙ get_or_from_slice_get rings c.loop-n.n ring d c.ring.ensures.value)) c.ring.ensures.closed)
      ]),
    )
