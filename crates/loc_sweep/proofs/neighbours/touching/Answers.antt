use Rattle.loc_sweep.proofs.Pairs.{in_touch}
use Rattle.loc_sweep.proofs.neighbours.touching.Goals as goal

pub returns : goal.returns
returns c = rw (c.min.ensures, c.max.ensures) (in_touch c.args.table.now c.args.first c.args.second c.requires.first_in_range c.requires.second_in_range c.requires.touching)
