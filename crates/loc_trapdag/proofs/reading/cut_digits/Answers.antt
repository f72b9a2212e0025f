use Rattle.std.proofs.{Common.arith, lemmas.List.Sums.prefix_len-le-length}
use Rattle.std.specs.Char.{is_ascii_digit}
use Rattle.loc_spec_text.specs.Bytes.{is_white}
use Rattle.loc_trapdag.proofs.reading.cut_digits.Goals as goal

pub split_at-requires : goal.split_at-requires
split_at-requires c = let e = c.white_count.ensures in let l = prefix_len-le-length is_white c.args.line.now in omega arith

pub split_at-requires-2 : goal.split_at-requires-2
split_at-requires-2 c = let e = c.digit_count.ensures in let l = prefix_len-le-length is_ascii_digit c.split_at.result.1.now in omega (arith, e, l)
