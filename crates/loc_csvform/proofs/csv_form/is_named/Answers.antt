use Rattle.std.proofs.Common.{sym, ◌∙◌, ap}
use Rattle.std.specs.Str.{bytes_eq}
use Rattle.loc_spec_text.specs.Bytes.{capitals}
use Rattle.loc_wkt.proofs.WordLemmas.{same_text}
use Rattle.loc_csvform.proofs.csv_form.is_named.Goals as goal

pub returns : goal.returns
returns c = same_text c.args.name.now c.args.field.now c.requires.letters c.requires.capitals c.eq_ignore_ascii_case.result c.eq_ignore_ascii_case.ensures.test.0 c.eq_ignore_ascii_case.ensures.test.1 ∙ ap (bytes_eq (capitals c.args.field.now)) (sym c.requires.capitals)
