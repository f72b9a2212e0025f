use Rattle.std.proofs.lemmas.Result.{err_from_is_err_and}
use Rattle.loc_page.proofs.Pages.{both, put_same, stop}
use Rattle.loc_features.proofs.Answered.{not_empty, text_some}
use Rattle.loc_features.proofs.answering.put_lists.Goals as goal

pub returns-in_err-put_named : goal.returns-in_err-put_named
returns-in_err-put_named g c =
    let lists = c.args.lists.now in
    put_same (text_some lists.touching lists.covering c.args.layer.now (not_empty _ _ _ c.is_empty.ensures c.if-is_empty.false c.touching.ensures))
    (stop _ c.in_err-put_named.was (err_from_is_err_and _ c.from_residual.ensures.1).1 (rw c.touching-2.ensures at c.put_named-2.ensures))

pub returns : goal.returns
returns g c =
    let lists = c.args.lists.now in
    put_same (text_some lists.touching lists.covering c.args.layer.now (not_empty _ _ _ c.is_empty.ensures c.if-is_empty.false c.touching.ensures))
    (both c.in_ok-put_named.was (rw c.touching-2.ensures at c.put_named-2.ensures) (rw c.covering-2.ensures at c.put_named-3.ensures))
