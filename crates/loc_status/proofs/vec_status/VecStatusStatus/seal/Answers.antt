use Rattle.std.proofs.Common.{refl}
use Rattle.loc_status.proofs.vec_status.VecStatusStatus.seal.Goals as goal

pub returns-clause-ok : goal.returns-clause-ok
returns-clause-ok c = rw (← c.self.view_is) (record { list = refl; sealed_lists = refl; sealed = refl; inserted = refl; removed = refl; past_greatest = refl; is_changed = refl })
