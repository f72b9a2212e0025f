use Rattle.std.proofs.Common.{◌≡◌, [], Ok, sym, ◌∙◌, ap₂, map, subst}
use Rattle.std.specs.{List.enumerate_from, Result.IfErr, Result.IfOk}
use Rattle.csv.specs.Records.{fields_of}
use Rattle.loc_spec_text.specs.Reading.{reading}
use Rattle.loc_csvform.specs.{Faults.IsFaultOf, Layer.csv_row, Layer.features_from, Records.records_of}
use Rattle.loc_csvform.proofs.Layers.{no_column, no_header, under_header}
use Rattle.loc_csvform.proofs.csv_form.read_records.Goals as goal

pub returns-then-not-branch-clause-err : goal.returns-then-not-branch-clause-err
returns-then-not-branch-clause-err c = no_header c.args.scale (records_of c.args.reader.now) (rw c.if-not-branch.true at c.in_ok-next_record.ensures.ok)

pub returns-in_default-clause-err : goal.returns-in_default-clause-err
returns-in_default-clause-err c =
    let taken = rw c.if-not-branch.false at c.in_ok-next_record.ensures.ok in
    no_column c.args.scale (records_of c.args.reader.now) (fields_of c.next_record.new.fields) (records_of c.next_record.new.reader) taken.front c.in_default.ensures.found

pub returns-clause-ok : goal.returns-clause-ok
returns-clause-ok c =
    let taken = rw c.if-not-branch.false at c.in_ok-next_record.ensures.ok in
    let below = records_of c.next_record.new.reader in
    let is = under_header c.args.scale (records_of c.args.reader.now) (fields_of c.next_record.new.fields) below c.in-Some.columns.wkt taken.front c.in-Some.ensures.found in
    let same = ap₂ (λ count id. features_from (reading c.args.scale) (map (csv_row count c.in-Some.columns.wkt id) (enumerate_from 1 below)) []) c.in-Some.ensures.count c.in-Some.ensures.id in
    subst (λ read. IfOk c.read_rows.result (λ layer. read ≡ Ok layer)) (same ∙ sym is) c.read_rows.ensures.ok

pub returns-clause-err : goal.returns-clause-err
returns-clause-err c =
    let taken = rw c.if-not-branch.false at c.in_ok-next_record.ensures.ok in
    let below = records_of c.next_record.new.reader in
    let is = under_header c.args.scale (records_of c.args.reader.now) (fields_of c.next_record.new.fields) below c.in-Some.columns.wkt taken.front c.in-Some.ensures.found in
    let same = ap₂ (λ count id. features_from (reading c.args.scale) (map (csv_row count c.in-Some.columns.wkt id) (enumerate_from 1 below)) []) c.in-Some.ensures.count c.in-Some.ensures.id in
    subst (λ read. IfErr c.read_rows.result (IsFaultOf read)) (same ∙ sym is) c.read_rows.ensures.err
