use Rattle.std.proofs.Common.{refl}
use Rattle.std.specs.Fmt.{digits}
use Rattle.loc_maps.proofs.lines.pieces_line.Goals as goal

pub returns : goal.returns
unfolding digits
returns c = rw c.of.ensures refl
