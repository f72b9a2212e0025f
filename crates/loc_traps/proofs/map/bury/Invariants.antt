use Rattle.std.proofs.Common.{◌≡◌, ℕ, ◌+◌, not, ◌&&◌, length, take}
use Rattle.loc_traps.specs.{Meaning.live_of, Meaning.live_count, Splits.is_cut_by}
use Rattle.loc_traps.proofs.map.bury.Given as goal

-- the rows of the splits so far are live no longer
abbrev pub invariant-loop-split : goal.invariant-loop-split
invariant-loop-split l = record {
  rows : (i : ℕ) → live_of l.is_live i ≡ (live_of l.fn.is_live i && not (is_cut_by (take l.split-index l.splits) i));
  count : live_count l.is_live + l.split-index ≡ live_count l.fn.is_live;
  same_length : length l.is_live ≡ length l.fn.is_live;
}
