use Rattle.std.proofs.{Common.arith, lemmas.List.Sums.prefix_len-le-length}
use Rattle.std.specs.Char.{is_ascii_alphabetic}
use Rattle.loc_wkt.proofs.geometry.first_word.Goals as goal

pub split_at-requires : goal.split_at-requires
split_at-requires c = omega (arith, c.word_length.ensures, prefix_len-le-length is_ascii_alphabetic c.skip_white-text.result.now)
