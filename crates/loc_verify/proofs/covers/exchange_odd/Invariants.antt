use Rattle.std.proofs.Common.{take}
use Rattle.loc_cover.proofs.Exchanging.{IsExchangedBy}
use Rattle.loc_verify.proofs.covers.exchange_odd.Given as goal

abbrev pub invariant-loop-mark : goal.invariant-loop-mark
invariant-loop-mark l = IsExchangedBy l.fn.list.items (take l.mark-index l.marks) l.list.items
