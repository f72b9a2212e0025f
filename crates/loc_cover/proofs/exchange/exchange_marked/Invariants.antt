use Rattle.loc_cover.proofs.Exchanging.{IsMade}
use Rattle.loc_cover.proofs.exchange.exchange_marked.Given as goal

abbrev pub invariant-loop-mark : goal.invariant-loop-mark
invariant-loop-mark l = IsMade l.list l.marks l.mark-index l.done l.made.items
