use Rattle.std.proofs.{Common.refl, Common.subst, lemmas.List.take_all}
use Rattle.loc_cover.proofs.Exchanging.{IsExchangedBy, exchanged_more, exchanged_same}
use Rattle.loc_verify.proofs.covers.exchange_odd.Goals as goal
use Rattle.loc_verify.proofs.covers.exchange_odd.Goals.{then-mark+in_ok-exchange, else-mark}

pub exchange-requires : goal.exchange-requires
exchange-requires c = c.loop-mark.invariant.rising

pub loop-mark-init : goal.loop-mark-init
loop-mark-init c = record { rising = c.requires.in_order; exact = λ n. refl }

pub loop-mark-preserved : goal.loop-mark-preserved
loop-mark-preserved c = elim c.if-mark.branch [
  | then-mark+in_ok-exchange w ↦ rw w.list-is (exchanged_more c.args.list.now.items c.args.marks.now _ c.loop-mark.mark-index c.requires.marks_in_order c.loop-mark-test.true c.loop-mark.list.items w.exchange.new.list.items c.loop-mark.invariant w.if-mark.true w.in_ok-exchange.ensures)
  | else-mark w ↦ rw w.list-is (exchanged_same c.args.list.now.items c.args.marks.now _ c.loop-mark.mark-index c.requires.marks_in_order c.loop-mark-test.true c.loop-mark.list.items c.loop-mark.invariant w.if-mark.false)
]

pub returns : goal.returns
returns c = subst (λ ms. IsExchangedBy c.args.list.now.items ms c.loop-mark.list.items) (take_all c.loop-mark.mark-index c.args.marks.now c.loop-mark-test.false) c.loop-mark.invariant
