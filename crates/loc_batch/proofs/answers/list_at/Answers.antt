use Rattle.std.proofs.{Common.None, lemmas.Option.get_or_from_slice_get}
use Rattle.loc_batch.proofs.Named.{floor_in}
use Rattle.loc_batch.proofs.answers.list_at.Goals as goal

pub list_of-requires : goal.list_of-requires
list_of-requires c = record { in_range = floor_in c.args.legend.now c.args.n c.floor.result c.law.ensures (get_or_from_slice_get c.args.legend.now.floors c.args.n c.floor.result None c.floor.ensures) }
