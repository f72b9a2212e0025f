use Rattle.std.proofs.Common.{sym, ◌∙◌}
use Rattle.loc_node.proofs.Twice.{found, more, no_piece, none, start}
use Rattle.loc_node.proofs.pieces.first_twice.Goals as goal

pub loop-n-init : goal.loop-n-init
loop-n-init c = start c.args.pieces.now c.requires.in_order

pub loop-n-preserved : goal.loop-n-preserved
loop-n-preserved c = more c.args.pieces.now c.requires.in_order c.loop-n.n no_piece c.loop-n.auto.n c.loop-n-test.true (sym (c.is_again.ensures.later c.loop-n.auto.n no_piece) ∙ c.if-is_again.false) c.loop-n.invariant

pub returns-then-is_again : goal.returns-then-is_again
returns-then-is_again c = found c.args.pieces.now c.requires.in_order c.loop-n.n c.index-pieces-n.result c.loop-n.auto.n c.loop-n-test.true (sym (c.is_again.ensures.later c.loop-n.auto.n c.index-pieces-n.result) ∙ c.if-is_again.true) c.loop-n.invariant

pub returns : goal.returns
returns c = none c.args.pieces.now c.requires.in_order c.loop-n.n c.loop-n-test.false c.loop-n.invariant
