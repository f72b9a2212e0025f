use Rattle.loc_indexed.proofs.WrittenIndex.{cut_file, made_file}
use Rattle.loc_upgrade.proofs.upgrading.make_upgrade.Goals as goal

pub returns-in-Ok : goal.returns-in-Ok
returns-in-Ok g c = made_file _ _ _ _ _ c.in-Ok.ensures.written

pub returns-in-Err : goal.returns-in-Err
returns-in-Err g c = cut_file _ _ _ _ _ c.in-Err.ensures.written
