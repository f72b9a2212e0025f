use Rattle.std.proofs.Common.{◌≡◌, ℕ, ◌+◌, ◌-◌, ◌++◌, ◌∷◌, [], false, List, filter, get_or, map, sym, ◌∙◌, ap, arith}
use Rattle.std.specs.List.{range_with_len}
use Rattle.std.proofs.lemmas.List.{map-append}
use Rattle.loc_spec_plane.specs.Rings.{Rings}
use Rattle.loc_half.specs.HalfEdgeLists.{next_in}
use Rattle.loc_faces.specs.FaceLists.{face_in}
use Rattle.loc_spec_groups.specs.Groups.{face_rings}
use Rattle.loc_dissolve.proofs.Covered.{range_more_none, range_more_one}
use Rattle.loc_dissolve.proofs.polygons.polygons_of.Goals as goal
use Rattle.loc_dissolve.proofs.polygons.polygons_of.Goals.{then-covered-number+in_ok-polygon_of+in_ok-push, else-covered-number}

pub loop-number-preserved : goal.loop-number-preserved
loop-number-preserved c =
    let f = c.loop-number.number in
    let rings = face_rings c.args.table.now (next_in c.args.half.now) (face_in c.args.faces.now) in
    let passes = λ (g : ℕ). get_or c.args.covered.now g false in
    let from = c.loop-number.invariant.from in
    let more : (c.loop-number.number + 1) - 1 ≡ (c.loop-number.number - 1) + 1 = omega (arith, from) in
    let last : 1 + (c.loop-number.number - 1) ≡ c.loop-number.number = omega (arith, from) in
    elim c.if-covered-number.branch [
      | then-covered-number+in_ok-polygon_of+in_ok-push w ↦ record {
        from = omega (arith, from);
        made = ap (λ v. v.items) w.polygons-is ∙ (w.in_ok-push.ensures.items ∙ (ap (λ (p : Rings). c.loop-number.polygons.items ++ p ∷ []) w.in_ok-polygon_of.ensures ∙ (ap (λ (ps : List Rings). ps ++ rings f ∷ []) c.loop-number.invariant.made
            ∙ sym (ap (map rings) (ap (λ k. filter passes (range_with_len 1 k)) more ∙ range_more_one passes 1 (f - 1) f last w.if-covered-number.true) ∙ map-append rings (filter passes (range_with_len 1 (f - 1))) (f ∷ [])))));
      }
      | else-covered-number w ↦ record {
        from = omega (arith, from);
        made = ap (λ v. v.items) w.polygons-is ∙ (c.loop-number.invariant.made ∙ sym (ap (map rings) (ap (λ k. filter passes (range_with_len 1 k)) more ∙ range_more_none passes 1 (f - 1) f last w.if-covered-number.false)));
      }
    ]
