use Rattle.std.proofs.Common.{◌≡◌, ◌+◌, Bool, true, List, set, sym, ◌∙◌, ap, subst, arith}
use Rattle.loc_half.specs.HalfEdgeLists.{leader_in}
use Rattle.loc_faces.proofs.Hanging.{IsHangingSoFar, hanging_noted, hanging_passed, hanging_all}
use Rattle.loc_faces.proofs.cycles.hanging_cycles.Goals as goal
use Rattle.loc_faces.proofs.cycles.hanging_cycles.Goals.{then-passes_low, else-passes_low}

pub loop-h-preserved : goal.loop-h-preserved
loop-h-preserved c = elim c.if-passes_low.branch [
  | then-passes_low w ↦ (let noted : c.if-passes_low.hanging.items ≡ set c.loop-h.hanging.items (leader_in c.args.half.now c.loop-h.h) true = ap (λ v. v.items) w.hanging-is ∙ ap (λ l. set c.loop-h.hanging.items l true) w.leader.ensures in
      subst (λ (hanging : List Bool). IsHangingSoFar c.args.table.now c.args.half.now c.args.least.now hanging (c.loop-h.h + 1)) (sym noted)
      (hanging_noted c.args.table.now c.law.ensures.in_order c.args.half.now c.requires.half c.args.least.now c.loop-h.hanging.items c.loop-h.h (omega arith) (sym c.passes_low.ensures ∙ w.if-passes_low.true) c.loop-h.invariant))
  | else-passes_low w ↦ subst (λ (hanging : List Bool). IsHangingSoFar c.args.table.now c.args.half.now c.args.least.now hanging (c.loop-h.h + 1)) (sym (ap (λ v. v.items) w.hanging-is))
      (hanging_passed c.args.table.now c.law.ensures.in_order c.args.half.now c.requires.half c.args.least.now c.loop-h.hanging.items c.loop-h.h (sym c.passes_low.ensures ∙ w.if-passes_low.false) c.loop-h.invariant)
]

pub returns : goal.returns
returns c = hanging_all c.args.table.now c.law.ensures.in_order c.args.half.now c.requires.half c.args.least.now c.loop-h.hanging.items c.loop-h.h c.requires.least (omega arith) (omega arith) c.loop-h.invariant
