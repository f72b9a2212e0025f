use Rattle.std.proofs.Common.{◌≡◌, ◌++◌, take}
use Rattle.loc_edges.specs.Tagged.{tagged_by}
use Rattle.loc_node.proofs.pieces.put_pieces.Given as goal

-- the pieces before have been put there
abbrev pub invariant-loop-piece : goal.invariant-loop-piece
invariant-loop-piece l = l.all.items ≡ l.fn.all.items ++ tagged_by l.feature (take l.piece-index l.pieces)
