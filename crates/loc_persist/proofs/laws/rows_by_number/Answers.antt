use Rattle.loc_persist.proofs.ByNumber.{rows_by_number_read}
use Rattle.loc_persist.proofs.laws.rows_by_number.Goals as goal

pub returns : goal.returns
returns c = rows_by_number_read
