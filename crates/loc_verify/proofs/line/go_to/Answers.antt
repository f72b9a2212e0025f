use Rattle.std.proofs.{Common.arith, lemmas.Result.on_ok_weaker}
use Rattle.loc_spec_plane.specs.Tables.{corner}
use Rattle.loc_laws_order.proofs.ListLaws.{list_from_chain}
use Rattle.loc_sweep.proofs.Whole.{before_next}
use Rattle.loc_verify.proofs.line.go_to.Goals as goal

pub returns-clause-next : goal.returns-clause-next
returns-clause-next c =
    let before = c.requires.before in
    let left = c.in_ok-leave_all.ensures in
    on_ok_weaker c.come_all.result (λ came. before_next c.args.table.now c.law.ensures.in_order c.args.corner c.requires.in_range c.come_all.new.status came.list came.begun
    (let b = before.balance in let i = left.inserted in let l = left.balance in let k = came.balance in let r = came.removed in omega (arith, b, i, l, k, r)) came.in_range) c.come_all.ensures

pub returns-clause-version : goal.returns-clause-version
returns-clause-version c = on_ok_weaker c.come_all.result (λ came. list_from_chain c.args.table.now c.requires.apart (corner c.args.table.now c.args.corner) c.come_all.new.status.list came.list.chain came.list.exact) c.come_all.ensures
