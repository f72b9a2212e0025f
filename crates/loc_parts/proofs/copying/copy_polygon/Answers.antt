use Rattle.std.proofs.Common.{◌≡◌, ◌++◌, ◌∷◌, [], length, take, slice_range, sym, ◌∙◌, ap, ap₂, arith}
use Rattle.std.proofs.lemmas.List.{take_more}
use Rattle.loc_spec_text.specs.Reading.{all_rings}
use Rattle.loc_rings.specs.Values.{with_ring}
use Rattle.loc_rings.proofs.{Cuts.with_ring-last, Lone.own_rings, Lone.range_more}
use Rattle.loc_parts.proofs.Copied.{few_rings}
use Rattle.loc_parts.proofs.copying.copy_polygon.Goals as goal

pub add-requires-clause-room : goal.add-requires-clause-room
add-requires-clause-room c =
    let few = few_rings c.args.rings.now c.args.n c.polygon-first.result.0 c.loop-k.k in
    omega (arith, ap (λ ps. length (all_rings ps)) c.loop-k.invariant, few, c.polygon-first.ensures.first, c.polygon-first.ensures.few)

pub loop-k-preserved : goal.loop-k-preserved
loop-k-preserved c =
    let front = take c.args.n c.args.rings.now in
    let rings = all_rings c.args.rings.now in
    let so_far = slice_range rings c.polygon-first.result.0 c.loop-k.k in
    c.in_ok-add.ensures.ok
    ∙ (ap₂ with_ring c.loop-k.invariant c.in_ok-from_slice.ensures.items
    ∙ (with_ring-last front so_far c.ring.result.now
    ∙ ap (λ rs. front ++ rs ∷ []) (sym (range_more rings c.polygon-first.result.0 c.loop-k.k c.ring.result.now (omega arith) c.ring.ensures.value))))

pub returns : goal.returns
returns c =
    let n = c.args.n in
    let polygons = c.args.rings.now in
    let end : c.loop-k.k ≡ c.polygon-first.result.1 = omega arith in
    c.loop-k.invariant
    ∙ (ap (λ rs. take n polygons ++ rs ∷ []) (ap₂ (slice_range (all_rings polygons)) c.polygon-first.ensures.first (end ∙ c.polygon-first.ensures.past) ∙ own_rings polygons n c.requires.in_range)
    ∙ sym (take_more polygons n [] c.requires.in_range))
