use Rattle.std.proofs.Common.{◌+◌, ap}
use Rattle.loc_wkt.proofs.values.Counter.with.Goals as goal

pub returns : goal.returns
returns c = ap (λ o. record { count = c.args.self.count + 1; fault = o }) c.or.ensures
