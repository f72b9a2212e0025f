use Rattle.std.proofs.Common.{◌≡◌, drop, map, string_bytes}
use Rattle.std.specs.List.{list_all}
use Rattle.loc_words.specs.Tested.{is_tested}
use Rattle.loc_words.proofs.words.may_follow.Given as goal

abbrev pub invariant-loop-word : goal.invariant-loop-word
invariant-loop-word l = list_all is_tested (map string_bytes l.words) ≡ list_all is_tested (map string_bytes (drop l.word-index l.words))
