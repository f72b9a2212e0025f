use Rattle.loc_csvform.proofs.Fields.{is_valid}
use Rattle.loc_csvform.proofs.csv_form.is_text.Goals as goal

pub returns : goal.returns
returns c = is_valid _ _ c.args.bytes.now c.from_utf8.result c.is_ok.result c.from_utf8.ensures.cases c.is_ok.ensures.value
