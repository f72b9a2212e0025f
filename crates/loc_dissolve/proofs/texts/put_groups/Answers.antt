use Rattle.std.proofs.{Common.refl, Common.arith, lemmas.Result.err_from_is_err_and}
use Rattle.std.specs.List.{flat_map}
use Rattle.loc_spec_groups.specs.GroupTexts.{group_row}
use Rattle.loc_page.proofs.Pages.{goes_end, goes_more, stop}
use Rattle.loc_faces.proofs.Writing.{goes_item}
use Rattle.loc_dissolve.proofs.texts.put_groups.Goals as goal

pub loop-group-init : goal.loop-group-init
loop-group-init g c = λ n k r p. p

pub returns-in_err-put_group : goal.returns-in_err-put_group
returns-in_err-put_group g c =
    goes_item (group_row c.args.scale) c.args.groups.now c.loop-group.group-index c.group-item.result _ _ _ _ _ (omega arith) c.group-item.is c.loop-group.invariant _ _ _
    (stop _ c.in_err-put_group.was (err_from_is_err_and _ c.from_residual.ensures.1).1 c.put_group.ensures)

pub loop-group-preserved : goal.loop-group-preserved
loop-group-preserved g c =
    goes_more _ ((group_row c.args.scale) c.group-item.result) _ _ _ c.in_ok-put_group.was
    (goes_item (group_row c.args.scale) c.args.groups.now c.loop-group.group-index c.group-item.result _ _ _ _ _ (omega arith) c.group-item.is c.loop-group.invariant) c.put_group.ensures

pub returns : goal.returns
returns g c = goes_end (λ xs. flat_map (group_row c.args.scale) xs) c.args.groups.now c.loop-group.group-index _ _ _ _ _ _ (omega arith) refl c.loop-group.invariant
