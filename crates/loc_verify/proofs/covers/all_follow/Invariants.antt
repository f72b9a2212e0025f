use Rattle.std.proofs.Common.{ℕ, ◌<◌, None, get_or}
use Rattle.loc_verify.specs.Following.{IsNext}
use Rattle.loc_verify.proofs.covers.all_follow.Given as goal

-- the lists of the edges before follow
abbrev pub invariant-loop-edge : goal.invariant-loop-edge
invariant-loop-edge l = (e : ℕ) → e < l.edge → IsNext l.table l.legend (get_or l.below e None) e
