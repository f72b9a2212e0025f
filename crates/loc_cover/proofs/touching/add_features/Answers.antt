use Rattle.std.proofs.Common.{false, ◌++◌, ◌∷◌, [], get_or, map, take, sym, ◌∙◌, ap}
use Rattle.std.proofs.lemmas.List.{append_assoc, map_more, take_all}
use Rattle.loc_spec_plane.specs.declared.Mark.{Mark}
use Rattle.loc_cover.proofs.touching.add_features.Goals as goal

pub loop-mark-preserved : goal.loop-mark-preserved
loop-mark-preserved c =
    let row = c.args.row.now.items in
    let before = map (λ (m : Mark). m.feature) (take c.loop-mark.mark-index c.args.marks.now) in
    let none : Mark = record { feature = 0; odd = false } in
    let mark = get_or c.args.marks.now c.loop-mark.mark-index none in
    c.in_ok-push.ensures.items ∙ (ap (λ xs. xs ++ mark.feature ∷ []) c.loop-mark.invariant ∙ (append_assoc row before (mark.feature ∷ []) ∙ ap (λ xs. row ++ xs) (sym (map_more (λ (m : Mark). m.feature) c.args.marks.now c.loop-mark.mark-index none c.loop-mark-test.true))))

pub returns : goal.returns
returns c = c.loop-mark.invariant ∙ ap (λ ms. c.args.row.now.items ++ map (λ (m : Mark). m.feature) ms) (take_all c.loop-mark.mark-index c.args.marks.now c.loop-mark-test.false)
