use Rattle.std.proofs.Common.{ℕ, ◌<◌, IsTrue}
use Rattle.loc_spec_plane.specs.Lists.{is_in}
use Rattle.loc_verify.proofs.lists.least_spare.Given as goal

abbrev pub invariant-loop-list : goal.invariant-loop-list
invariant-loop-list l = (n : ℕ) → n < l.list → IsTrue (is_in n l.legend.above)
