use Rattle.std.proofs.Common.{refl}
use Rattle.csv.specs.Records.{fields_of}
use Rattle.loc_csvform.proofs.Fields.{field_read}
use Rattle.loc_csvform.proofs.records.field.Goals as goal

pub returns : goal.returns
returns c = field_read (fields_of c.args.fields.now) c.args.n c.get.result _ c.unwrap_or.result c.get.ensures.value refl c.unwrap_or.ensures
