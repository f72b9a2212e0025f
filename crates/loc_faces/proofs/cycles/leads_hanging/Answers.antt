use Rattle.std.proofs.Common.{sym, ◌∙◌, ap, arith}
use Rattle.std.specs.Prelude.{◌==◌}
use Rattle.loc_faces.proofs.Hanging.{hanging_leads, hanging_other}
use Rattle.loc_faces.proofs.cycles.leads_hanging.Goals as goal

pub leader-requires : goal.leader-requires
leader-requires c = omega (arith, c.requires.half.as_many_leaders, c.requires.in_range)

pub bounds-hanging-h : goal.bounds-hanging-h
bounds-hanging-h c = omega (arith, c.requires.hanging.as_many, c.requires.in_range)

pub returns-then-leader-h : goal.returns-then-leader-h
returns-then-leader-h c = hanging_leads c.args.table.now c.args.half.now c.requires.half c.args.hanging.now c.requires.hanging c.args.h c.requires.in_range (sym c.leader.ensures ∙ c.if-leader-h.true)

pub returns-else-leader-h : goal.returns-else-leader-h
returns-else-leader-h c = ap (λ l. l == c.args.h) c.leader.ensures ∙ hanging_other c.args.table.now c.args.half.now c.requires.half c.args.hanging.now c.requires.hanging c.args.h c.requires.in_range (λ is. c.if-leader-h.false (c.leader.ensures ∙ is))
