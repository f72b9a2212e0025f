use Rattle.std.proofs.Common.{◌-◌, length, take, drop, arith}
use Rattle.std.proofs.lemmas.List.{length-drop, take_all}
use Rattle.loc_cover.proofs.Exchanging.{even_made, odd_made}
use Rattle.loc_cover.proofs.exchange.exchange_marked.Goals as goal
use Rattle.loc_cover.proofs.exchange.exchange_marked.Goals.{then-mark+in_ok-done, else-mark}

pub loop-mark-preserved : goal.loop-mark-preserved
loop-mark-preserved c = elim c.if-mark.branch [
  | then-mark+in_ok-done w ↦ rw (w.made-is, w.done-is) (odd_made c.args.list.now c.args.marks.now _ c.loop-mark.mark-index c.loop-mark.done c.loop-mark.made.items c.requires.marks_in_order c.loop-mark-test.true c.loop-mark.invariant
      (take (length c.args.list.now - c.loop-mark.done) (drop c.loop-mark.done c.args.list.now)) w.in_ok-done.field-0 w.exchange.new.made.items
      (take_all _ _ (let size = length-drop c.loop-mark.done c.args.list.now in omega (arith, size)))
      w.if-mark.true w.in_ok-done.ensures.within w.in_ok-done.ensures.behind w.in_ok-done.ensures.exchanged)
  | else-mark w ↦ rw (w.made-is, w.done-is) (even_made c.args.list.now c.args.marks.now _ c.loop-mark.mark-index c.loop-mark.done c.loop-mark.made.items c.requires.marks_in_order c.loop-mark-test.true c.loop-mark.invariant w.if-mark.false)
]
