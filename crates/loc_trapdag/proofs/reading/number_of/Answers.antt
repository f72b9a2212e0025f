use Rattle.std.proofs.Common.{◌≡◌, List, ℕ, true, subst, sym}
use Rattle.std.specs.{Char.is_ascii_digit, List.list_all}
use Rattle.loc_spec_text.specs.Bytes.{without_front}
use Rattle.loc_trapdag.proofs.Digits.{all_taken}
use Rattle.loc_trapdag.proofs.reading.number_of.Goals as goal

pub capped_value-requires : goal.capped_value-requires
capped_value-requires c = subst (λ (xs : List ℕ). list_all is_ascii_digit xs ≡ true) (sym c.cut_digits.ensures.digits) (all_taken is_ascii_digit (without_front c.args.line.now))
