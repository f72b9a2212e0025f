use Rattle.std.proofs.Common.{◌∙◌, sym, ap, add-one}
use Rattle.loc_spec_index.specs.IndexFile.{none_or_next}
use Rattle.loc_write.proofs.rows.floor_number.Goals as goal

pub returns-in-Some : goal.returns-in-Some
returns-in-Some c = add-one c.in-Some.edge ∙ sym (ap none_or_next c.in-Some.is)
