use Rattle.std.proofs.Common.{◌++◌, ◌∷◌, [], get_or, sym, ◌∙◌, ap, ap₂, arith}
use Rattle.std.proofs.{lemmas.List.append-nil, lemmas.List.Concat.flat_map-append, lemmas.Option.get_or_from_slice_get}
use Rattle.loc_spec_plane.specs.Lists.{numbers}
use Rattle.loc_half.proofs.Corners.{range_more}
use Rattle.loc_valid.specs.Pinches.{ends_by, ring_ends_of}
use Rattle.loc_valid.proofs.pinches.ends_of_rings.Goals as goal

pub loop-edge-preserved : goal.loop-edge-preserved
loop-edge-preserved c =
    let t = c.args.table.now in let e = c.loop-edge.edge in
    c.in_ok-put_ends.ensures
    ∙ (ap₂ (λ front back. front ++ back) c.loop-edge.invariant
    (ap₂ ends_by (ap₂ (λ low high. (low, high)) c.ends.ensures.lower c.ends.ensures.upper) (sym (get_or_from_slice_get t.marks e c.marks.result.now [] c.marks.ensures.value)))
    ∙ (ap (λ ends. ring_ends_of t (numbers e) ++ ends) (sym (append-nil (ends_by (get_or t.ends e (0, 0)) (get_or t.marks e []))))
    ∙ (sym (flat_map-append (λ k. ends_by (get_or t.ends k (0, 0)) (get_or t.marks k [])) (numbers e) (e ∷ [])) ∙ ap (ring_ends_of t) (sym (range_more 0 e e (omega arith))))))
