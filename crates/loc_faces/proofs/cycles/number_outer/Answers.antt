use Rattle.std.proofs.Common.{◌≡◌, ℕ, ◌+◌, ◌++◌, ◌∷◌, [], List, length, length-append, set, sym, ◌∙◌, ap, subst, arith}
use Rattle.loc_faces.specs.Cycles.{AreNumbered}
use Rattle.loc_faces.proofs.Numbering.{number_more, number_passed, listed_few}
use Rattle.loc_faces.proofs.cycles.number_outer.Goals as goal
use Rattle.loc_faces.proofs.cycles.number_outer.Goals.{then-leads_outer+in_ok-push, else-leads_outer}

pub overflow_cast-len : goal.overflow_cast-len
overflow_cast-len c =
    let long = ap length c.in_ok-push.ensures.items ∙ length-append c.loop-h.outers.items (c.loop-h.h ∷ []) in
    omega (arith, listed_few c.args.table.now c.args.half.now c.requires.half c.loop-h.outers.items c.loop-h.of_cycle.items c.loop-h.h c.loop-h.invariant, c.law.ensures.small.few_edges, long, c.push.new.self.ok.0, c.len.ensures)

pub loop-h-preserved : goal.loop-h-preserved
loop-h-preserved c = elim c.if-leads_outer.branch [
  | then-leads_outer+in_ok-push w ↦ (let more : w.push.new.self.items ≡ c.loop-h.outers.items ++ c.loop-h.h ∷ [] = w.in_ok-push.ensures.items in
      let long : w.len.result ≡ length w.push.new.self.items = omega (arith, w.push.new.self.ok.0, w.len.ensures) in
      let listed : c.if-leads_outer.outers.items ≡ w.push.new.self.items = ap (λ v. v.items) w.outers-is in
      let numbered : c.if-leads_outer.of_cycle.items ≡ set c.loop-h.of_cycle.items c.loop-h.h (length w.push.new.self.items) = ap (λ v. v.items) w.of_cycle-is ∙ ap (set c.loop-h.of_cycle.items c.loop-h.h) long in
      subst (λ (outers : List ℕ). AreNumbered c.args.table.now c.args.half.now outers c.if-leads_outer.of_cycle.items (c.loop-h.h + 1)) (sym listed)
      (subst (λ (of_cycle : List ℕ). AreNumbered c.args.table.now c.args.half.now w.push.new.self.items of_cycle (c.loop-h.h + 1)) (sym numbered)
      (number_more c.args.table.now c.args.half.now c.requires.half c.loop-h.outers.items w.push.new.self.items c.loop-h.of_cycle.items c.loop-h.h (omega arith) (sym c.leads_outer.ensures ∙ w.if-leads_outer.true) more c.loop-h.invariant)))
  | else-leads_outer w ↦ subst (λ (outers : List ℕ). AreNumbered c.args.table.now c.args.half.now outers c.if-leads_outer.of_cycle.items (c.loop-h.h + 1)) (sym (ap (λ v. v.items) w.outers-is))
      (subst (λ (of_cycle : List ℕ). AreNumbered c.args.table.now c.args.half.now c.loop-h.outers.items of_cycle (c.loop-h.h + 1)) (sym (ap (λ v. v.items) w.of_cycle-is))
      (number_passed c.args.table.now c.args.half.now c.requires.half c.loop-h.outers.items c.loop-h.of_cycle.items c.loop-h.h (sym c.leads_outer.ensures ∙ w.if-leads_outer.false) c.loop-h.invariant))
]

pub returns : goal.returns
returns c = subst (AreNumbered c.args.table.now c.args.half.now c.loop-h.outers.items c.loop-h.of_cycle.items) (omega arith) c.loop-h.invariant
