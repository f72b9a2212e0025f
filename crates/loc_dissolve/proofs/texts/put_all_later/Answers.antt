use Rattle.std.proofs.Common.{◌++◌, refl, arith}
use Rattle.std.specs.{Prelude.codes, List.flat_map}
use Rattle.std.proofs.lemmas.Result.{err_from_is_err_and}
use Rattle.loc_page.proofs.Pages.{goes_end, goes_more, stop}
use Rattle.loc_faces.proofs.Writing.{goes_item}
use Rattle.loc_dissolve.proofs.texts.put_all_later.Goals as goal

pub loop-item-init : goal.loop-item-init
loop-item-init g c = λ n k r p. p

pub returns-in_err-put_later : goal.returns-in_err-put_later
returns-in_err-put_later g c =
    goes_item (λ x. codes ", " ++ g.T.Written.text c.args.scale x) c.args.items.now c.loop-item.item-index c.item-item.result _ _ _ _ _ (omega arith) c.item-item.is c.loop-item.invariant _ _ _
    (stop _ c.in_err-put_later.was (err_from_is_err_and _ c.from_residual.ensures.1).1 c.put_later.ensures)

pub loop-item-preserved : goal.loop-item-preserved
loop-item-preserved g c =
    goes_more _ (codes ", " ++ g.T.Written.text c.args.scale c.item-item.result) _ _ _ c.in_ok-put_later.was
    (goes_item (λ x. codes ", " ++ g.T.Written.text c.args.scale x) c.args.items.now c.loop-item.item-index c.item-item.result _ _ _ _ _ (omega arith) c.item-item.is c.loop-item.invariant) c.put_later.ensures

pub returns : goal.returns
returns g c = goes_end (λ xs. flat_map (λ x. codes ", " ++ g.T.Written.text c.args.scale x) xs) c.args.items.now c.loop-item.item-index _ _ _ _ _ _ (omega arith) refl c.loop-item.invariant
