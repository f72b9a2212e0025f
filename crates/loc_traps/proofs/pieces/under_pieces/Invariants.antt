use Rattle.std.proofs.Common.{◌≡◌, map}
use Rattle.loc_spec_plane.specs.Lists.{numbers}
use Rattle.loc_traps.specs.Walks.{under_row}
use Rattle.loc_traps.proofs.pieces.under_pieces.Given as goal

-- the first pieces
abbrev pub invariant-loop-i : goal.invariant-loop-i
invariant-loop-i l = l.rows.items ≡ map (under_row l.edge l.starts) (numbers l.i)
