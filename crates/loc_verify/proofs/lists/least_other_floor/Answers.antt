use Rattle.std.proofs.Common.{◌≡◌, ℕ, true, false, not, refl, ap, ◌∙◌, ◌<◌, ◌≢◌, None, sym, subst, inl, inr, get_or, arith}
use Rattle.std.specs.{Prelude.Option, Prelude.Some, Prelude.nat_eq, Option.option_eq}
use Rattle.std.proofs.lemmas.Option.{get_or_from_slice_get}
use Rattle.std.proofs.lemmas.Bool.{cases_eq, eq-eqb, eqb-true, true≢false}
use Rattle.loc_verify.proofs.lists.least_other_floor.Goals as goal

same_one : (a : Option ℕ) → option_eq nat_eq a a ≡ true
same_one None = refl
same_one (Some n) = eq-eqb n n refl

is_other : (a b : Option ℕ) → true ≡ not (option_eq nat_eq a b) → a ≡ b → ⊥
is_other a b ne same = true≢false (ne ∙ ap not (ap (option_eq nat_eq a) (sym same) ∙ same_one a))

was_true : (b : _) → false ≡ not b → b ≡ true
was_true true h = refl
was_true false h = absurd (true≢false (sym h))

is_same : (a b : Option ℕ) → false ≡ not (option_eq nat_eq a b) → a ≡ b
is_same None None h = refl
is_same None (Some m) h = absurd (true≢false (sym h))
is_same (Some n) None h = absurd (true≢false (sym h))
is_same (Some n) (Some m) h = ap (λ k. Some k) (eqb-true n m (was_true (nat_eq n m) h))

pub loop-corner-init : goal.loop-corner-init
loop-corner-init c = λ n less. absurd (omega (arith, less))

pub floor-requires : goal.floor-requires
floor-requires c = subst (λ n. c.loop-corner.corner < n) c.requires.as_many c.loop-corner-test.true

pub bounds-floors-corner : goal.bounds-floors-corner
bounds-floors-corner c = c.loop-corner-test.true

pub returns-then-ne : goal.returns-then-ne
returns-then-ne c = (c.loop-corner-test.true, (λ same. is_other c.floor.result _ c.if-ne.ensures (sym (get_or_from_slice_get c.args.legend.now.floors c.loop-corner.corner c.floor.result None c.floor.ensures) ∙ same)), c.loop-corner.invariant)

pub loop-corner-preserved : goal.loop-corner-preserved
loop-corner-preserved c = λ n less. elim (cases_eq n c.loop-corner.corner) [
  | inl same ↦ subst (λ k. get_or c.args.legend.now.floors k None ≡ get_or c.args.floors.now k None) (sym same) ((get_or_from_slice_get c.args.legend.now.floors c.loop-corner.corner c.floor.result None c.floor.ensures) ∙ is_same c.floor.result _ c.if-ne.ensures)
  | inr other ↦ c.loop-corner.invariant n (let differ : n ≢ c.loop-corner.corner = other in omega (arith, less, differ))
]

pub returns : goal.returns
returns c = λ n fits. c.loop-corner.invariant n (omega (arith, fits, c.loop-corner-test.false))
