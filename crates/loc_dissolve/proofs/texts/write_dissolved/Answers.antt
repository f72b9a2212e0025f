use Rattle.std.proofs.{Common.ap, lemmas.Result.err_from_is_err_and}
use Rattle.loc_spec_groups.specs.GroupTexts.{dissolved_text}
use Rattle.loc_page.proofs.Pages.{cut_page, put_same, whole_page}
use Rattle.loc_dissolve.proofs.texts.write_dissolved.Goals as goal

pub returns-in_err-put_layer : goal.returns-in_err-put_layer
returns-in_err-put_layer g c = cut_page c.in_err-put_layer.was (err_from_is_err_and _ c.from_residual.ensures.1).1 c.new-page.ensures (put_same (ap (dissolved_text c.args.scale) c.groups.ensures) c.put_layer.ensures)

pub returns : goal.returns
returns g c = whole_page c.in_ok-put_layer.was c.new-page.ensures (put_same (ap (dissolved_text c.args.scale) c.groups.ensures) c.put_layer.ensures) c.flush.ensures.put c.flush.ensures.empty
