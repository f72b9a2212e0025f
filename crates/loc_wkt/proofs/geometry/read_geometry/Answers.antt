use Rattle.std.proofs.Common.{◌≡◌, ◌≢◌, ◌∙◌, sym, subst, Err, arith, rules}
use Rattle.std.proofs.lemmas.Result.{err_from_is_err_and}
use Rattle.loc_spec_text.specs.{declared.TextFault.TheVariants.NoMemory, Reading.reading}
use Rattle.loc_wkt.specs.Passes.{HasRoom}
use Rattle.loc_wkt.proofs.Outcome.{no_tree_read, tree_read, words_read}
use Rattle.loc_wkt.proofs.TagLemmas.{is_err_of, is_ok_of}
use Rattle.loc_wkt.proofs.geometry.read_geometry.Goals as goal

pub returns-in-Some-clause-err : goal.returns-in-Some-clause-err
returns-in-Some-clause-err c = λ h. words_read c.args.scale c.args.text.now c.in-Some.fault (search rules)

pub returns-in_err-read_values-clause-err : goal.returns-in_err-read_values-clause-err
returns-in_err-read_values-clause-err c =
    let p = err_from_is_err_and c.from_residual.result c.from_residual.ensures.1 in
    let f : c.in_err-read_values.field-0.0 ≢ NoMemory → reading c.args.scale c.args.text.now ≡ Err c.in_err-read_values.field-0.0 = no_tree_read c.args.scale c.args.text.now c.in_err-read_values.field-0.0 (search rules) c.in_err-read_values.ensures.err in
    rw (p.1, p.2) f

pub returns-clause-ok : goal.returns-clause-ok
returns-clause-ok c = is_ok_of c.outcome.result (reading c.args.scale c.args.text.now) (tree_read c.args.scale c.args.text.now c.read_values.new.values (search rules) (rw c.new-values.ensures at c.in_ok-read_values.ensures.ok) ∙ sym c.outcome.ensures)

pub returns-clause-err : goal.returns-clause-err
returns-clause-err c = is_err_of (λ fault. fault ≢ NoMemory) c.outcome.result (reading c.args.scale c.args.text.now) (tree_read c.args.scale c.args.text.now c.read_values.new.values (search rules) (rw c.new-values.ensures at c.in_ok-read_values.ensures.ok) ∙ sym c.outcome.ensures)

pub read_values-requires : goal.read_values-requires
read_values-requires c = λ rest shorter. let size = c.requires.size in
    subst (λ v. HasRoom v rest) (sym c.new-values.ensures) (record { scale = c.requires.scale; numbers = omega (arith, size, shorter); rings = omega (arith, size, shorter); kept = search rules; polygons = omega (arith, size, shorter) })
