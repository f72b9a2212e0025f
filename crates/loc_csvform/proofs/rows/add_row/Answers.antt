use Rattle.std.proofs.Common.{◌≢◌, refl, rules}
use Rattle.loc_spec_text.specs.declared.TextFault.TheVariants.{NoMemory}
use Rattle.loc_csvform.proofs.rows.add_row.Goals as goal

pub returns-clause-err : goal.returns-clause-err
returns-clause-err c = let other : c.in-Err.fault ≢ NoMemory = search rules in (rw (c.in-Err.ensures.err other) refl, other)
