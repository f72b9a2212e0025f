use Rattle.std.proofs.Common.{◌≡◌, ◌∙◌, ◌+◌, ◌-◌, ◌*◌, ◌&&◌, rules, arith, ap, ap₂, length, get_or, true}
use Rattle.std.specs.Char.{is_ascii_digit}
use Rattle.std.proofs.lemmas.List.Folds.{list_all_more}
use Rattle.loc_wkt.proofs.{DigitLemmas.digit_behind, ShortNumbers.room_more, ShortNumbers.room_now}
use Rattle.loc_wkt.proofs.grid_numbers.short.leading_digits.Goals as goal
use Rattle.loc_spec_text.proofs.DigitLaws.{digit_range}

pub overflow_mul-value : goal.overflow_mul-value
overflow_mul-value c = omega (arith, room_now c.loop-i.value (length c.args.text.now - c.loop-i.i) (length c.args.text.now - (c.loop-i.i + 1)) (omega arith) c.loop-i.invariant.room)

pub overflow_add-value : goal.overflow_add-value
overflow_add-value c =
    let digit : is_ascii_digit (get_or c.args.text.now c.loop-i.i 0) ≡ true = search rules in
    let d = digit_range (get_or c.args.text.now c.loop-i.i 0) digit in
    omega (arith, d, room_now c.loop-i.value (length c.args.text.now - c.loop-i.i) (length c.args.text.now - (c.loop-i.i + 1)) (omega arith) c.loop-i.invariant.room)

pub loop-i-preserved : goal.loop-i-preserved
loop-i-preserved c =
    let digit : is_ascii_digit (get_or c.args.text.now c.loop-i.i 0) ≡ true = search rules in
    let d = digit_range (get_or c.args.text.now c.loop-i.i 0) digit in
    record {
      digits = list_all_more is_ascii_digit c.args.text.now c.loop-i.i 0 (omega arith) ∙ ap₂ (λ a b. a && b) c.loop-i.invariant.digits digit;
      value = λ ds e. ap (λ v. v * 10 + (get_or c.args.text.now c.loop-i.i 0 - 48)) (c.loop-i.invariant.value ds e) ∙ digit_behind ds c.args.text.now c.loop-i.i (omega arith) d;
      room = room_more c.loop-i.value (get_or c.args.text.now c.loop-i.i 0 - 48) (length c.args.text.now - c.loop-i.i) (length c.args.text.now - (c.loop-i.i + 1)) (omega (arith, d)) (omega arith) c.loop-i.invariant.room;
    }
