use Rattle.std.proofs.Common.{◌∙◌, sym, arith}
use Rattle.loc_wkt.proofs.SymbolLemmas.{mark_first, no_mark_first}
use Rattle.loc_wkt.proofs.marks.next_mark.Goals as goal

pub returns-in-empty-clause-found : goal.returns-in-empty-clause-found
returns-in-empty-clause-found c = no_mark_first c.args.text.now c.skip_white.result.now c.skip_white.ensures (λ h. absurd (omega arith))

pub returns-then-is_mark-clause-found : goal.returns-then-is_mark-clause-found
returns-then-is_mark-clause-found c = mark_first c.args.text.now c.skip_white.result.now c.skip_white.ensures (omega arith) (sym c.is_mark.ensures ∙ c.if-is_mark.true)

pub returns-else-is_mark-clause-found : goal.returns-else-is_mark-clause-found
returns-else-is_mark-clause-found c = no_mark_first c.args.text.now c.skip_white.result.now c.skip_white.ensures (λ h. sym c.is_mark.ensures ∙ c.if-is_mark.false)
