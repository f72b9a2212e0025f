use Rattle.std.proofs.Common.{◌∙◌, sym, ap, not, arith}
use Rattle.std.proofs.lemmas.Bool.{lt-ltb}
use Rattle.loc_verify.proofs.Ends.{ends_begin, ends_end}
use Rattle.loc_verify.proofs.marks.is_end.Goals as goal

pub returns-then-first-past : goal.returns-then-first-past
returns-then-first-past c = lt-ltb _ _ c.if-first-past.true ∙ sym (ends_begin c.args.table.now c.args.corner c.beginning-first.result.0 c.beginning-first.result.1 c.beginning-first.ensures c.if-first-past.true)

pub returns-else-first-past : goal.returns-else-first-past
returns-else-first-past c = ap not c.is_empty.ensures ∙ ends_end c.args.table.now c.args.corner c.beginning-first.result.0 c.beginning-first.result.1 c.beginning-first.ensures (λ less. (let no = c.if-first-past.false in omega (arith, less, no))) c.ending.result.now c.ending.ensures
