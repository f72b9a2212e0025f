use Rattle.loc_laws_index.proofs.FileFacts.{facts}
use Rattle.loc_file.proofs.held.Held.version.Goals as goal

pub returns-clause-known : goal.returns-clause-known
returns-clause-known c = (facts _ _ c.self.invariant.file).known
