use Rattle.std.proofs.Common.{◌≡◌, Ok, subst}
use Rattle.std.specs.Result.{IfErr, IfOk}
use Rattle.loc_csvform.specs.{Faults.IsFaultOf, Layer.layer_of}
use Rattle.loc_csvform.proofs.Layers.{of_records}
use Rattle.loc_csvform.proofs.csv_form.read_csv.Goals as goal

pub returns-clause-ok : goal.returns-clause-ok
unfolding layer_of
returns-clause-ok c = subst (λ records. IfOk c.read_records.result (λ layer. of_records c.args.scale records ≡ Ok layer)) c.reader_of-reader.ensures.records c.read_records.ensures.ok

pub returns-clause-err : goal.returns-clause-err
unfolding layer_of
returns-clause-err c = subst (λ records. IfErr c.read_records.result (IsFaultOf (of_records c.args.scale records))) c.reader_of-reader.ensures.records c.read_records.ensures.err
