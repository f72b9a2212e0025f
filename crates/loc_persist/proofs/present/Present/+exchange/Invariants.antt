-- The path becomes shorter.
use Rattle.std.proofs.Common.{length}
use Rattle.loc_persist.proofs.present.Present.+exchange.Given as goal

abbrev pub decreases-exchange : goal.decreases-exchange
decreases-exchange l = length l.path.now.items
