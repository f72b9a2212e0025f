use Rattle.std.proofs.Common.{arith}
use Rattle.loc_laws_index.proofs.FileFacts.{facts}
use Rattle.loc_file.proofs.held.Held.scale.Goals as goal

pub returns-clause-within : goal.returns-clause-within
returns-clause-within c = let f = facts _ _ c.self.invariant.file in omega (arith, f.scale)
