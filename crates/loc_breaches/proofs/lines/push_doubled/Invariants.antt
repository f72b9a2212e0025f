use Rattle.std.proofs.Common.{◌≡◌, ◌++◌, take}
use Rattle.std.specs.List.{flat_map}
use Rattle.loc_spec_text.specs.Points.{quoted_byte}
use Rattle.loc_breaches.proofs.lines.push_doubled.Given as goal

-- the bytes before stand in the text
abbrev pub invariant-loop-byte : goal.invariant-loop-byte
invariant-loop-byte l = l.text.items ≡ l.fn.text.items ++ flat_map quoted_byte (take l.byte-index l.id)
