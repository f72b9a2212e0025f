use Rattle.std.proofs.Common.{◌≡◌, ◌-◌, ◌≤◌, false, get_or}
use Rattle.std.specs.{Prelude.count_by, List.range_with_len}
use Rattle.loc_valid.proofs.parts.count_covered.Given as goal

abbrev pub invariant-loop-face : goal.invariant-loop-face
invariant-loop-face l = (l.parts ≡ count_by (λ f. get_or l.covered f false) (range_with_len 1 (l.face - 1))) × (l.parts ≤ l.face)
