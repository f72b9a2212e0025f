use Rattle.std.proofs.Common.{arith, sym, ◌∙◌, ap}
use Rattle.csv.specs.Records.{fields_of}
use Rattle.loc_spec_text.specs.Bytes.{same_word}
use Rattle.loc_csvform.proofs.Fields.{first_place, no_place}
use Rattle.loc_csvform.proofs.csv_form.column_of.Goals as goal

pub returns-then-is_named : goal.returns-then-is_named
returns-then-is_named c = sym (first_place (λ field. same_word field c.args.name.now) (fields_of c.args.header.now) c.loop-n.n c.loop-n.invariant (omega (arith, c.len-n-end.ensures, c.loop-n-test.true))
    (ap (λ field. same_word field c.args.name.now) (sym c.field.ensures) ∙ (sym c.is_named.ensures ∙ c.if-is_named.true)))

pub returns : goal.returns
returns c = sym (no_place (λ field. same_word field c.args.name.now) (fields_of c.args.header.now) c.loop-n.n c.loop-n.invariant (omega (arith, c.len-n-end.ensures, c.loop-n-test.false)) (omega (arith, c.len-n-end.ensures, c.loop-n.auto.n-end)))
