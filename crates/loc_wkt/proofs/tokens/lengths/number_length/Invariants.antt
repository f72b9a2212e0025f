use Rattle.std.proofs.Common.{◌≡◌, ℕ, List, ◌++◌, take}
use Rattle.loc_spec_text.specs.Number.{is_number}
use Rattle.loc_wkt.specs.{TokenList.longest_to, TokenParts.completes}
use Rattle.loc_wkt.proofs.tokens.lengths.number_length.Given as goal

abbrev pub invariant-loop-i : goal.invariant-loop-i
invariant-loop-i l = record {
  part : (more : List ℕ) → is_number (take l.i l.text ++ more) ≡ completes l.part more;
  length : l.length ≡ longest_to is_number l.i l.text;
}
