use Rattle.std.proofs.Common.{arith}
use Rattle.loc_valid.proofs.parts.noded_swept.Goals as goal

pub unreachable-requires : goal.unreachable-requires
unreachable-requires c =
    let many = rw c.in-Err-ManyPieces.field-0-is at c.in-Err-ManyPieces.ensures.refused in
    omega (arith, many, c.requires.few_pieces)
