use Rattle.std.proofs.Common.{◌∙◌, ◌^◌, ◌++◌, [], ap, ap₂, subst, arith, length, min}
use Rattle.std.specs.Prelude.{if◌then◌else◌}
use Rattle.std.specs.{Char.is_ascii_digit, List.list_all, Str.Parse.digits_value}
use Rattle.loc_spec_text.specs.Number.{is_negative, unsigned}
use Rattle.loc_wkt.specs.GridNumbers.{Represents}
use Rattle.loc_wkt.proofs.GridLemmas.{number_digits, digits_short}
use Rattle.loc_wkt.proofs.grid_numbers.decimal_of.Goals as goal

pub followed_by-whole-requires-clause-digits : goal.followed_by-whole-requires-clause-digits
followed_by-whole-requires-clause-digits c = ap (list_all is_ascii_digit) c.args.number.now.whole ∙ (number_digits c.args.number.now.text.now c.args.number.now.number).whole

pub followed_by-digits-requires-clause-digits : goal.followed_by-digits-requires-clause-digits
followed_by-digits-requires-clause-digits c = ap (list_all is_ascii_digit) c.args.number.now.fraction ∙ (number_digits c.args.number.now.text.now c.args.number.now.number).fraction

pub shifts-raised-requires : goal.shifts-raised-requires
shifts-raised-requires c = ap (λ t. list_all is_ascii_digit (unsigned t)) c.args.number.now.exponent ∙ (number_digits c.args.number.now.text.now c.args.number.now.number).exponent

pub returns : goal.returns
returns c = let s = digits_short c.args.number.now.text.now in
    let w = ap length c.args.number.now.whole in
    let f = ap length c.args.number.now.fraction in
    record {
      digits = subst (λ v. Represents c.followed_by-digits.result v) (ap₂ (λ a b. digits_value 10 (a ++ b)) c.args.number.now.whole c.args.number.now.fraction)
          (c.followed_by-digits.ensures.value c.args.number.now.parts.whole.now (c.followed_by-whole.ensures.value [] c.none.ensures.none));
      zeros = omega (arith, s, w, f, c.told-number, c.followed_by-digits.ensures.zeros, c.followed_by-whole.ensures.zeros, c.none.ensures.zeros);
      fraction = f;
      places = omega (arith, s, f, c.told-number);
      raises = c.shifts-raised.ensures.raised ∙ ap (λ e. min (if is_negative e then 0 else digits_value 10 (unsigned e)) (2 ^ 66)) c.args.number.now.exponent;
      lowers = c.shifts-raised.ensures.lowered ∙ ap (λ e. min (if is_negative e then digits_value 10 (unsigned e) else 0) (2 ^ 66)) c.args.number.now.exponent;
    }
