use Rattle.std.proofs.Common.{◌≢◌, ℕ, ◌<◌, get_or}
use Rattle.loc_trapdag.proofs.reading.find_missing.Given as goal

-- the edges so far have lines
abbrev pub invariant-loop-edge : goal.invariant-loop-edge
invariant-loop-edge l = (e : ℕ) → e < l.edge → get_or l.line_of e 0 ≢ 0
