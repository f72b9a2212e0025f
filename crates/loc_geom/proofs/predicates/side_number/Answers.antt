use Rattle.std.proofs.{Common.to_z-of_z, Common.arith, lemmas.Int.ints}
use Rattle.std.specs.Int.{w128}
use borrow.Author.Differences.{fits_in}
use Rattle.loc_geom.proofs.predicates.side_number.Goals as goal

pub returns : goal.returns
returns c = rw (to_z-of_z {w = w128} (fits_in w128 c.turn_number.result (omega (arith, ints))), ← c.lo.ensures, ← c.hi.ensures.value) c.turn_number.ensures
