use Rattle.std.proofs.Common.{◌/◌, ◌≡◌, ◌∙◌, ◌++◌, ap, arith, rules, sym, w64, to_z, of_z}
use Rattle.std.specs.{Prelude.pos, Prelude.int_lt, Prelude.unsigned_abs, Fmt.decimal}
use Rattle.std.proofs.lemmas.Int.{to_z-of_z}
use Rattle.loc_spec_text.proofs.NumberLaws.{ten_pos}
use Rattle.loc_wkt.proofs.GridTexts.{negative_text, put_minus, whole_short}
use Rattle.loc_wkt.proofs.grid_texts.put_grid.Goals as goal

pub nonzero_rem-magnitude : goal.nonzero_rem-magnitude
nonzero_rem-magnitude c = omega (arith, c.pow-unit.ensures, ten_pos c.args.scale)

pub nonzero_div-magnitude : goal.nonzero_div-magnitude
nonzero_div-magnitude c = omega (arith, c.pow-unit.ensures, ten_pos c.args.scale)

pub write_digits-start-requires : goal.write_digits-start-requires
write_digits-start-requires c =
    let short = whole_short c.unsigned_abs-magnitude.result c.pow-unit.result c.unsigned_abs-magnitude.ensures.bound in
    (omega (arith, short, c.put_fraction-end.ensures.size, c.requires.room, c.requires.scale), omega (arith, c.put_fraction-end.ensures.within))

pub overflow_sub-sign : goal.overflow_sub-sign
overflow_sub-sign c =
    let short = whole_short c.unsigned_abs-magnitude.result c.pow-unit.result c.unsigned_abs-magnitude.ensures.bound in
    omega (arith, short, c.write_digits-start.ensures.start, c.put_fraction-end.ensures.size, c.requires.room, c.requires.scale)

pub returns-clause-text : goal.returns-clause-text
returns-clause-text c =
    let same : to_z w64 (of_z w64 c.args.value) ≡ c.args.value = to_z-of_z w64 c.args.value (search rules) in
    let short = whole_short c.unsigned_abs-magnitude.result c.pow-unit.result c.unsigned_abs-magnitude.ensures.bound in
    put_minus c.write_digits-start.new.buf _ c.write_digits-start.result
    (omega (arith, short, c.write_digits-start.ensures.start, c.put_fraction-end.ensures.size, c.requires.room, c.requires.scale))
    (omega (arith, c.write_digits-start.ensures.start, c.put_fraction-end.ensures.within))
    (c.write_digits-start.ensures.written ∙ ap (λ ds. decimal (c.unsigned_abs-magnitude.result / c.pow-unit.result) ++ ds) c.put_fraction-end.ensures.text)
    ∙ negative_text c.args.scale c.args.value c.unsigned_abs-magnitude.result c.pow-unit.result (c.unsigned_abs-magnitude.ensures.value ∙ ap unsigned_abs same) c.pow-unit.ensures
    (ap (λ v. int_lt v (pos 0)) (sym same) ∙ sym c.is_below_zero.ensures ∙ c.if-not-is_below_zero.false)
