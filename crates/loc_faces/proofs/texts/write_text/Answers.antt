use Rattle.loc_page.proofs.Pages.{cut_page, whole_page}
use Rattle.std.proofs.lemmas.Result.{err_from_is_err_and}
use Rattle.loc_faces.proofs.texts.write_text.Goals as goal

pub returns-in_err-put_text : goal.returns-in_err-put_text
returns-in_err-put_text g c = cut_page c.in_err-put_text.was (err_from_is_err_and _ c.from_residual.ensures.1).1 c.new-page.ensures c.put_text.ensures

pub returns : goal.returns
returns g c = whole_page c.in_ok-put_text.was c.new-page.ensures c.put_text.ensures c.flush.ensures.put c.flush.ensures.empty
