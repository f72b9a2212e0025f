use Rattle.std.proofs.Common.{◌≡◌, ◌∙◌, sym, subst, Bool, true, false}
use Rattle.std.proofs.lemmas.Bool.{true≢false}
use Rattle.std.specs.Prelude.{◌&&◌}
use Rattle.loc_spec_plane.specs.Points.{up_to, is_on}
use Rattle.loc_geom.proofs.predicates.on.Goals as goal
use Rattle.loc_geom.proofs.predicates.on.Goals.{then-is_up_to, else-is_up_to}

all_three : (r o u v : Bool) → r ≡ o → u ≡ true → v ≡ true → r ≡ (o && u && v)
all_three r true u v here first second = rw (first, second) here
all_three r false u v here first second = here

first_fails : (r o u v : Bool) → r ≡ false → u ≡ false → r ≡ (o && u && v)
first_fails r true u v here fails = rw fails here
first_fails r false u v here fails = here

second_fails : (r o u v : Bool) → r ≡ false → v ≡ false → r ≡ (o && u && v)
second_fails r true true v here fails = rw fails here
second_fails r true false v here fails = here
second_fails r false u v here fails = here

pub returns-then-is_up_to-2 : goal.returns-then-is_up_to-2
returns-then-is_up_to-2 c = elim c.if-is_up_to.branch [
  | then-is_up_to w ↦ all_three _ _ _ _ c.is_level.ensures
      (subst (λ l. up_to l c.args.p ≡ true) c.lo.ensures (sym c.is_up_to.ensures ∙ w.if-is_up_to.true))
      (subst (λ h. up_to c.args.p h ≡ true) w.hi.ensures.value (sym w.is_up_to-then-is_up_to.ensures ∙ sym w.value-is ∙ c.if-is_up_to-2.true))
  | else-is_up_to w ↦ absurd (true≢false (sym c.if-is_up_to-2.true ∙ w.value-is ∙ w.if-is_up_to.false))
]

pub returns-else-is_up_to-2 : goal.returns-else-is_up_to-2
returns-else-is_up_to-2 c = elim c.if-is_up_to.branch [
  | then-is_up_to w ↦ second_fails _ (is_on c.args.edge c.args.p) (up_to c.args.edge.lo c.args.p) (up_to c.args.p c.args.edge.hi) c.if-is_up_to-2.false
      (subst (λ h. up_to c.args.p h ≡ false) w.hi.ensures.value (sym w.is_up_to-then-is_up_to.ensures ∙ sym w.value-is ∙ c.if-is_up_to-2.false))
  | else-is_up_to w ↦ first_fails _ (is_on c.args.edge c.args.p) (up_to c.args.edge.lo c.args.p) (up_to c.args.p c.args.edge.hi) c.if-is_up_to-2.false
      (subst (λ l. up_to l c.args.p ≡ false) c.lo.ensures (sym c.is_up_to.ensures ∙ w.if-is_up_to.false))
]
