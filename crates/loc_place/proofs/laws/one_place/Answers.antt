use Rattle.loc_place.proofs.OnePlace.{one_place}
use Rattle.loc_place.proofs.laws.one_place.Goals as goal

pub returns : goal.returns
returns g c = one_place c.args.views.now c.requires.in_order c.requires.apart c.args.p c.args.first c.args.second c.requires.first_is c.requires.second_is
