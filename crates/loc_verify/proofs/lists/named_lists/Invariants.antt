use Rattle.std.proofs.Common.{ℕ, ◌≡◌, ◌<◌, length, get_or, take, false}
use Rattle.loc_spec_plane.specs.Lists.{is_in}
use Rattle.loc_verify.proofs.lists.named_lists.Given as goal

abbrev pub invariant-loop-edge : goal.invariant-loop-edge
invariant-loop-edge l = record {
  as_many : length l.named.items ≡ length l.legend.lists;
  exact : (n : ℕ) → n < length l.legend.lists → get_or l.named.items n false ≡ is_in n (take l.edge l.legend.above);
}
