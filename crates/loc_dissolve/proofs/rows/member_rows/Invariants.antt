use Rattle.std.proofs.Common.{◌≡◌, ℕ, ◌<◌, [], get_or, length}
use Rattle.loc_dissolve.specs.Grouping.{IsGroupRow}
use Rattle.loc_dissolve.proofs.rows.member_rows.Given as goal

-- the lists before have their rows
abbrev pub invariant-loop-n : goal.invariant-loop-n
invariant-loop-n l = record { as_many : length l.rows ≡ l.n; each : (k : ℕ) → k < l.n → IsGroupRow l.groups (get_or l.legend.lists k []) (get_or l.rows k []) }
