use Rattle.std.proofs.Common.{◌≡◌, drop, map, string_bytes}
use Rattle.std.specs.List.{list_all}
use Rattle.loc_words.specs.Rows.{is_value}
use Rattle.loc_words.proofs.words.are_values.Given as goal

abbrev pub invariant-loop-word : goal.invariant-loop-word
invariant-loop-word l = list_all is_value (map string_bytes l.words) ≡ list_all is_value (map string_bytes (drop l.word-index l.words))
