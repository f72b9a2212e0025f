use Rattle.std.proofs.Common.{◌≡◌, ◌+◌, List, [], ◌∷◌, ◌++◌, take, get_or, sym, ◌∙◌, ap, subst, inl, inr, arith}
use Rattle.std.proofs.{lemmas.Bool.cases_lt, lemmas.List.take_all, lemmas.List.take_more, lemmas.List.flat_map_more}
use Rattle.std.proofs.lemmas.Option.{get_or_from_slice_get, slice_get_within}
use Rattle.loc_rings.specs.Values.{IsRing}
use Rattle.loc_spec_plane.specs.Rings.{Ring, ring_segments, segments}
use Rattle.loc_spec_text.specs.Reading.{all_rings}
use Rattle.loc_spans.proofs.Closing.{closed_rings}
use Rattle.loc_spans.proofs.segments.segments_of.Goals as goal

pub loop-n-preserved : goal.loop-n-preserved
loop-n-preserved c =
    let rings : List Ring = all_rings c.args.rings.now in
    let ring : Ring = c.ring.result.now in
    let one_more : take (c.loop-n.n + 1) rings ≡ take c.loop-n.n rings ++ ring ∷ [] =
    take_more rings c.loop-n.n ring (slice_get_within rings c.loop-n.n ring c.ring.ensures.value) ∙ ap (λ (r : Ring). take c.loop-n.n rings ++ r ∷ []) (get_or_from_slice_get rings c.loop-n.n ring ring c.ring.ensures.value) in (
      c.in_ok-add_ring.ensures ∙ (ap (λ ss. ss ++ ring_segments ring) c.loop-n.invariant.0 ∙ (flat_map_more ring_segments [] (take c.loop-n.n rings) ring ∙ ap segments (sym one_more))),
      λ k d lt. (elim (cases_lt k c.loop-n.n) [
        | inl before ↦ c.loop-n.invariant.1 k d before
        | inr not_before ↦ (let same : k ≡ c.loop-n.n = omega arith in subst IsRing (sym (ap (λ n. get_or rings n d) same ∙ get_or_from_slice_get rings c.loop-n.n ring d c.ring.ensures.value)) c.ring.ensures.closed)
      ]),
    )

pub returns-clause-value : goal.returns-clause-value
returns-clause-value c = c.loop-n.invariant.0 ∙ ap segments (take_all c.loop-n.n (all_rings c.args.rings.now) (omega (arith, c.loop-n-test.false, c.len-n-end.ensures.value)))

pub returns-clause-closed : goal.returns-clause-closed
returns-clause-closed c = closed_rings (all_rings c.args.rings.now) (λ k d lt. c.loop-n.invariant.1 k d (omega (arith, lt, c.loop-n-test.false, c.len-n-end.ensures.value)))
