use Rattle.std.proofs.{Common.subst, lemmas.Bool.not-true}
use Rattle.loc_status.specs.Lists.{IsInserted}
use Rattle.loc_verify.proofs.Apart.{here, none_hit}
use Rattle.loc_verify.proofs.line.come.Goals as goal

pub unreachable-requires : goal.unreachable-requires
unreachable-requires c = none_hit c.ranks.result c.args.table.now c.ranks.ensures c.law.ensures.in_order c.requires.apart c.args.edge c.requires.in_range c.args.status.now.list c.requires.chain c.requires.is_new c.in-Err-Hits.field-0 c.in-Err-Hits.field-0-0 c.in-Err-Hits.field-0-is c.in-Err-Hits.ensures.cause

pub returns-in-Ok-clause-chain : goal.returns-in-Ok-clause-chain
returns-in-Ok-clause-chain c = (here c.args.table.now c.requires.apart c.args.edge c.args.status.now.list c.insert.new.self.list c.in-Ok.field-0 c.law.ensures.in_order c.requires.in_range c.requires.chain (not-true _ c.requires.is_new)
    (subst (λ r. IsInserted r c.args.edge c.args.status.now.list c.insert.new.self.list) c.ranks.ensures c.in-Ok.ensures.ok.list) c.in-Ok.ensures.beside).0

pub returns-in-Ok-clause-others : goal.returns-in-Ok-clause-others
returns-in-Ok-clause-others c = (here c.args.table.now c.requires.apart c.args.edge c.args.status.now.list c.insert.new.self.list c.in-Ok.field-0 c.law.ensures.in_order c.requires.in_range c.requires.chain (not-true _ c.requires.is_new)
    (subst (λ r. IsInserted r c.args.edge c.args.status.now.list c.insert.new.self.list) c.ranks.ensures c.in-Ok.ensures.ok.list) c.in-Ok.ensures.beside).1
