-- The red violation stands higher each time, and no change was made.
use Rattle.std.proofs.Common.{List, ℕ, length, ◌≤◌}
use Rattle.loc_rb.specs.{Nodes.Within, Steps.RedViolation}
use Rattle.loc_rb.proofs.insertion.fix_insertion.Given as goal

abbrev pub invariant-up : goal.invariant-up
invariant-up g l = record {
  some : (L : List ℕ) × RedViolation (g.K.Links.nodes l.links) l.path.items l.red L;
  all : (L : List ℕ) → RedViolation (g.K.Links.nodes l.initial.links) l.initial.path.items l.initial.red L → RedViolation (g.K.Links.nodes l.links) l.path.items l.red L;
  within : Within 0 0 (g.K.Links.nodes l.initial.links) (g.K.Links.nodes l.links);
  short : length l.path.items ≤ 44;
}

abbrev pub decreases-up : goal.decreases-up
decreases-up g l = length l.path.items
