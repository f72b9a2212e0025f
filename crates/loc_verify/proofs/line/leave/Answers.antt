use Rattle.loc_verify.proofs.Apart.{gone}
use Rattle.loc_verify.proofs.line.leave.Goals as goal

pub returns-clause-chain : goal.returns-clause-chain
returns-clause-chain c = (gone c.args.table.now c.requires.apart c.args.edge c.args.status.now.list c.remove.new.self.list c.in_ok-remove.field-0 c.requires.chain c.in_ok-remove.ensures.beside c.in_ok-remove.ensures.ok.list).0

pub returns-clause-others : goal.returns-clause-others
returns-clause-others c = (gone c.args.table.now c.requires.apart c.args.edge c.args.status.now.list c.remove.new.self.list c.in_ok-remove.field-0 c.requires.chain c.in_ok-remove.ensures.beside c.in_ok-remove.ensures.ok.list).1
