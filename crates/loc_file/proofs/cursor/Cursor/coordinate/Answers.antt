use Rattle.std.proofs.Common.{refl, rules, sym, ◌∙◌, ap, arith}
use Rattle.std.specs.Int.{w64, cast_signed, from_be_bytes}
use Rattle.loc_file.proofs.Steps.{handed}
use Rattle.loc_file.proofs.Fields.{below_64, cast-back, coordinate-short, coordinate-wrong, coordinate-read, long_is}
use Rattle.loc_file.proofs.cursor.Cursor.coordinate.Goals as goal

pub returns-in_err-held-clause-err : goal.returns-in_err-held-clause-err
returns-in_err-held-clause-err c = handed c.from_residual.result _ _ c.from_residual.ensures.1 (λ x. coordinate-short x c.in_err-held.ensures.err)

pub returns-then-size-gt-LIMIT-clause-err : goal.returns-then-size-gt-LIMIT-clause-err
returns-then-size-gt-LIMIT-clause-err c =
    let held = c.in_ok-held.held.now in
    let raw = from_be_bytes w64 held in
    let back = cast-back c.read_i64-value.result raw (c.read_i64-value.ensures ∙ ap (cast_signed w64) (long_is held)) (below_64 held (search rules)) in
    λ x. coordinate-wrong _ x raw c.unsigned_abs-size.result _ held c.offset-offset.ensures c.in_ok-held.ensures.ok refl back c.unsigned_abs-size.ensures.value c.if-size-gt-LIMIT.true

pub returns-clause-ok : goal.returns-clause-ok
returns-clause-ok c =
    let held = c.in_ok-held.held.now in
    let raw = from_be_bytes w64 held in
    let fits = below_64 held (search rules) in
    let back = cast-back c.read_i64-value.result raw (c.read_i64-value.ensures ∙ ap (cast_signed w64) (long_is held)) fits in
    coordinate-read _ raw held c.in_ok-held.ensures.ok (search rules) refl fits back (omega (arith, sym c.unsigned_abs-size.ensures.value, c.if-size-gt-LIMIT.false))
