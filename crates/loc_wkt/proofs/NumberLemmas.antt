-- Which bytes are digits, and what a text is cut into where a byte is found.
use Rattle.std.proofs.Common.{◌≡◌, refl, ℕ, ◌-◌, ◌≤◌, arith}
use Rattle.std.specs.Char.{digit_value}
use Rattle.std.proofs.lemmas.Bool.{lt-ltb, le-ltb}

pub digit_number : (c : ℕ) → 48 ≤ c → c ≤ 57 → digit_value c ≡ c - 48
digit_number c h k = rw (le-ltb c 48 h, lt-ltb c 58 (omega arith)) refl
