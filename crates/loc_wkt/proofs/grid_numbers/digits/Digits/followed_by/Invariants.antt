use Rattle.std.proofs.Common.{◌≤◌, ◌+◌, ℕ, List, ◌++◌, take}
use Rattle.std.specs.Str.Parse.{digits_value}
use Rattle.loc_wkt.specs.GridNumbers.{Represents}
use Rattle.loc_wkt.proofs.grid_numbers.digits.Digits.followed_by.Given as goal

abbrev pub invariant-loop-b : goal.invariant-loop-b
invariant-loop-b l = record {
  value : (before : List ℕ) → Represents l.fn.self (digits_value 10 before) → Represents l.read (digits_value 10 (before ++ take l.b-index l.digits));
  zeros : l.read.zeros ≤ l.fn.self.zeros + l.b-index;
}
