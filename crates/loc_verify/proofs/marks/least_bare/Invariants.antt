use Rattle.std.proofs.Common.{ℕ, ◌<◌, ◌≢◌, [], get_or}
use Rattle.loc_verify.proofs.marks.least_bare.Given as goal

abbrev pub invariant-loop-edge : goal.invariant-loop-edge
invariant-loop-edge l = (e : ℕ) → e < l.edge → get_or l.table.marks e [] ≢ []
