use Rattle.std.proofs.Common.{ap}
use Rattle.loc_file.specs.Keeping.{FileOf}
use Rattle.loc_file.proofs.Holding.{row-within}
use Rattle.loc_file.proofs.held.Held.row.Goals as goal

pub returns-clause-within : goal.returns-clause-within
returns-clause-within c = row-within _ _ c.args.self.now.content c.args.number c.index.result.now (ap (λ (k : FileOf). k.content) c.self.view_is) c.self.invariant.file c.requires c.index.ensures
