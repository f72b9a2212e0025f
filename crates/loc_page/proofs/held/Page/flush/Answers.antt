use Rattle.std.proofs.Common.{rules}
use Rattle.loc_page.proofs.held.Page.flush.Goals as goal

pub returns-clause-put : goal.returns-clause-put
returns-clause-put g c = search rules steps 1000000
