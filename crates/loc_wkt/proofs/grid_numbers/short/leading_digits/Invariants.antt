use Rattle.std.proofs.Common.{◌≡◌, ◌≤◌, ◌+◌, ◌-◌, ◌*◌, ◌^◌, ℕ, List, ◌++◌, length, take, true}
use Rattle.std.specs.{Char.is_ascii_digit, List.list_all, Str.Parse.digits_value}
use Rattle.loc_wkt.proofs.grid_numbers.short.leading_digits.Given as goal

abbrev pub invariant-loop-i : goal.invariant-loop-i
invariant-loop-i l = record {
  digits : list_all is_ascii_digit (take l.i l.text) ≡ true;
  value : (ds : List ℕ) → l.fn.before ≡ digits_value 10 ds → l.value ≡ digits_value 10 (ds ++ take l.i l.text);
  room : (l.value + 1) * 10 ^ (length l.text - l.i) ≤ 10 ^ 19;
}
