use Rattle.std.proofs.Common.{◌+◌, ◌-◌, ◌*◌, ◌^◌, min, take, get_or, sym, ◌∙◌, ap}
use Rattle.std.specs.{Char.is_ascii_digit, Str.Parse.digits_value}
use Rattle.std.proofs.lemmas.Int.Digits.{digits_value_more}
use Rattle.loc_trapdag.proofs.Digits.{member_passes, digit_is, cap_more}
use Rattle.loc_trapdag.proofs.reading.capped_value.Goals as goal

pub loop-digit-preserved : goal.loop-digit-preserved
loop-digit-preserved c =
    let i = c.loop-digit.digit-index in
    let x = get_or c.args.digits.now i 0 in
    let more = digits_value_more 10 c.args.digits.now i c.loop-digit-test.true in
    let is_digit = member_passes is_ascii_digit c.args.digits.now i c.loop-digit-test.true c.requires in
    let step = cap_more c.loop-digit.value (digits_value 10 (take i c.args.digits.now)) (x - 48) (2 ^ 32) c.loop-digit.invariant in
    c.min-value.ensures ∙ (ap (λ n. min (c.loop-digit.value * 10 + n) (2 ^ 32)) c.from.ensures ∙ (step ∙ ap (λ n. min n (2 ^ 32)) (sym (more ∙ ap (λ n. digits_value 10 (take i c.args.digits.now) * 10 + n) (digit_is x is_digit)))))
