use Rattle.std.proofs.Common.{ℕ, ◌≡◌, ◌≢◌, ◌<◌, get_or, false}
use Rattle.loc_verify.proofs.levels.is_some_node.Given as goal

abbrev pub invariant-loop-node : goal.invariant-loop-node
invariant-loop-node l = (m : ℕ) → m ≢ 0 → m < l.node → get_or l.level m false ≡ false
