use Rattle.std.proofs.Common.{sym, subst, ◌∷◌, [], arith}
use Rattle.std.specs.Result.{IfErr}
use Rattle.csv.specs.Records.{fields_of}
use Rattle.loc_spec_text.specs.Reading.{reading}
use Rattle.loc_csvform.specs.Faults.{IsFaultOf}
use Rattle.loc_csvform.specs.Layer.{features_from, field, row_id, row_of}
use Rattle.loc_csvform.proofs.Layers.{handed, same_count}
use Rattle.loc_csvform.proofs.csv_form.add_record.Goals as goal

pub returns-in_err-id-clause-err : goal.returns-in_err-id-clause-err
returns-in_err-id-clause-err c =
    let fields = fields_of c.args.fields.now in
    let text = field fields c.args.columns.now.wkt in
    let read = row_of c.args.row (row_id c.args.columns.now.id c.args.row fields) text in
    let same = same_count c.args.columns.now.count c.args.columns.now.wkt c.args.columns.now.id c.args.row fields (omega (arith, c.len.ensures, c.if-len-columns.false)) in
    subst (λ row. IfErr c.from_residual.result (IsFaultOf (features_from (reading c.args.scale) (row ∷ []) c.args.layer.now))) (sym same)
    (handed c.from_residual.result read c.in_err-id.field-0.0 c.args.layer.now (reading c.args.scale) c.from_residual.ensures.1 (c.in_err-id.ensures.err text))
