use Rattle.std.proofs.Common.{◌+◌, get_or, take, sym, subst}
use Rattle.std.specs.Prelude.{◌==◌}
use Rattle.std.proofs.lemmas.List.{take_all}
use Rattle.loc_spec_plane.specs.Lists.{odd_many}
use Rattle.loc_valid.specs.Hits.{AreLeast}
use Rattle.loc_valid.proofs.Turns.{turn_climbing}
use Rattle.loc_valid.proofs.least.least_odd.Goals as goal

pub loop-ring-preserved : goal.loop-ring-preserved
loop-ring-preserved c = subst (AreLeast (λ m. odd_many (λ q. get_or c.args.homes.now q 0 == m) (take (c.loop-ring.ring-index + 1) c.args.list.now))) (sym c.turned-least.ensures)
    (turn_climbing (λ q. get_or c.args.homes.now q 0) c.args.list.now c.loop-ring.ring-index c.loop-ring.least c.loop-ring-test.true c.requires.climbs c.loop-ring.invariant)

pub returns : goal.returns
returns c = subst (λ xs. AreLeast (λ m. odd_many (λ q. get_or c.args.homes.now q 0 == m) xs) c.loop-ring.least) (take_all c.loop-ring.ring-index c.args.list.now c.loop-ring-test.false) c.loop-ring.invariant
