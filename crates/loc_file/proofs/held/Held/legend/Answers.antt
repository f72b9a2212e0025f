use Rattle.loc_file.specs.Keeping.{FileOf}
use Rattle.std.proofs.Common.{ap}
use Rattle.loc_file.proofs.Holding.{cover_numbers-held}
use Rattle.loc_file.proofs.held.Held.legend.Goals as goal

pub returns-clause-cover_of : goal.returns-clause-cover_of
returns-clause-cover_of c = cover_numbers-held c.args.self.now.content _ _ _ (ap (λ (k : FileOf). k.content.edges) c.self.view_is) c.self.invariant.sourced c.self.invariant.as_many
