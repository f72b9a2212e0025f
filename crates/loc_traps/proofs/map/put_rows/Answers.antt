use Rattle.std.proofs.{Common.arith, lemmas.Grind.common_steps}
use Rattle.loc_traps.proofs.map.put_rows.Goals as goal

pub returns-clause-rows : goal.returns-clause-rows
returns-clause-rows c = c.in_ok-extend_from_slice.ensures.items

pub returns-clause-count : goal.returns-clause-count
returns-clause-count c = grind (arith, common_steps)
