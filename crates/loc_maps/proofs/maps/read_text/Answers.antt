use Rattle.loc_maps.proofs.Judged.{refuses_read}
use Rattle.loc_maps.proofs.maps.read_text.Goals as goal

pub returns-in-Err : goal.returns-in-Err
returns-in-Err c next m = rw c.layer_stop_of.ensures (refuses_read c.args.form _ c.in-Err.fault next m (rw c.decimals.ensures.value at c.in-Err.ensures.err))
