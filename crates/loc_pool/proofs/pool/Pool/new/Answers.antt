use Rattle.std.proofs.Common.{refl, sym, ap, arith, length}
use Rattle.loc_pool.specs.Cells.{rows_from}
use Rattle.loc_pool.proofs.pool.Pool.new.Goals as goal

pub invariant_of-result : goal.invariant_of-result
invariant_of-result c = record { places = ap length (sym c.new.ensures); room = omega arith; few = omega arith }

pub returns : goal.returns
unfolding rows_from
returns c = refl
