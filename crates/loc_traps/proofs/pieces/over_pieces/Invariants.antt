use Rattle.std.proofs.Common.{◌≡◌, map}
use Rattle.loc_spec_plane.specs.Lists.{numbers}
use Rattle.loc_traps.specs.Walks.{over_row}
use Rattle.loc_traps.proofs.pieces.over_pieces.Given as goal

-- the first pieces
abbrev pub invariant-loop-i : goal.invariant-loop-i
invariant-loop-i l = l.rows.items ≡ map (over_row l.edge l.starts) (numbers l.i)
