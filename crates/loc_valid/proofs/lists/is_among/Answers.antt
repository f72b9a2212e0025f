use Rattle.loc_valid.proofs.InLists.{among_at, among_none}
use Rattle.std.proofs.Common.{sym, arith}
use Rattle.loc_valid.proofs.lists.is_among.Goals as goal

pub returns-then-at-list : goal.returns-then-at-list
returns-then-at-list c = sym (among_none c.args.list.now c.args.n c.first_from-at.result c.first_from-at.ensures.below c.if-at-list.true)

pub returns : goal.returns
returns c = among_at c.args.list.now c.args.n c.first_from-at.result c.requires.rises (omega (arith, c.if-at-list.false, c.first_from-at.ensures.within)) c.first_from-at.ensures.below c.first_from-at.ensures.from
