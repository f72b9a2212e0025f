use Rattle.std.proofs.Common.{◌≡◌, ℕ, ◌-◌, ◌<◌, ◌≤◌, get_or, length, take}
use Rattle.loc_spec_plane.specs.{Points.Edge, Tables.cut_at}
use Rattle.loc_node.specs.Pieces.{cut_tagged, placed_from}
use Rattle.loc_spec_text.specs.Limits.{most_pieces}
use Rattle.loc_node.proofs.pieces.cut_all.Given as goal

-- the segments before are cut, into few pieces, and those of the last still stand there
abbrev pub invariant-loop-n : goal.invariant-loop-n
invariant-loop-n l = record {
  cut : l.all.items ≡ cut_tagged (cut_at l.finder) (take l.n (placed_from 0 l.tagged));
  few : length l.all.items ≤ most_pieces;
  last : 0 < l.n → (d : Edge × ℕ) → l.pieces.items ≡ cut_at l.finder (get_or l.tagged (l.n - 1) d).0;
}
