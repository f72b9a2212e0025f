use Rattle.std.proofs.Common.{◌≡◌, ℕ, ◌<◌, ◌≤◌, get_or, length}
use Rattle.loc_spec_plane.specs.Points.{Edge}
use Rattle.loc_node.specs.Pieces.{with_feature}
use Rattle.loc_node.proofs.pieces.put_features.Given as goal

-- the pieces before have their features, and the others are as they were
abbrev pub invariant-loop-n : goal.invariant-loop-n
invariant-loop-n l = record {
  as_many : length l.pieces ≡ length l.fn.pieces;
  done : (k : ℕ) (d : Edge × ℕ) → k < l.n → get_or l.pieces k d ≡ with_feature l.tagged (get_or l.fn.pieces k d);
  kept : (k : ℕ) (d : Edge × ℕ) → l.n ≤ k → get_or l.pieces k d ≡ get_or l.fn.pieces k d;
}
