-- The tree that lacks a black node stands higher each time, and no change was made.
use Rattle.std.proofs.Common.{List, ℕ, length, ◌≤◌}
use Rattle.loc_rb.specs.{Nodes.Within, Steps.LacksBlack}
use Rattle.loc_rb.proofs.removal.fix_removal.Given as goal

abbrev pub invariant-up : goal.invariant-up
invariant-up g l = record {
  some : (L : List ℕ) × LacksBlack (g.K.Links.nodes l.links) l.path.items L;
  all : (L : List ℕ) → LacksBlack (g.K.Links.nodes l.initial.links) l.initial.path.items L → LacksBlack (g.K.Links.nodes l.links) l.path.items L;
  within : Within 0 0 (g.K.Links.nodes l.initial.links) (g.K.Links.nodes l.links);
  short : length l.path.items ≤ 42;
}

abbrev pub decreases-up : goal.decreases-up
decreases-up g l = length l.path.items
