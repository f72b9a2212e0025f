use Rattle.std.proofs.Common.{ℕ, ◌+◌, ◌<◌, ◌≤◌, length, get_or, take}
use Rattle.loc_edges.proofs.EndingRows.{IsGrown}
use Rattle.loc_edges.proofs.rows.Rows.by_key.Given as goal

-- the items before stand in the rows of their keys, and there are no rows past the next one's
abbrev pub invariant-loop-pair : goal.invariant-loop-pair
invariant-loop-pair g l = record {
  grown : IsGrown (take l.pair-index l.keyed) l.rows;
  next : (j : ℕ) (d : _) → l.pair-index ≤ j → j < length l.keyed → length l.rows ≤ (get_or l.keyed j d).0 + 1;
  within : length l.rows ≤ l.count;
}
