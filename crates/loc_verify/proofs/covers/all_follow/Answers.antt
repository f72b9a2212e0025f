use Rattle.std.proofs.Common.{arith, ◌<◌, ◌≢◌, None, sym, subst, inl, inr, get_or}
use Rattle.std.proofs.{lemmas.Result.IfOk-from_err, lemmas.Bool.cases_eq, lemmas.Bool.true≢false}
use Rattle.loc_verify.specs.Following.{IsNext}
use Rattle.loc_verify.proofs.FollowingLists.{lists_right}
use Rattle.loc_verify.proofs.covers.all_follow.Goals as goal

pub returns : goal.returns
returns c = λ _. lists_right c.args.table.now c.law.ensures.in_order c.requires.even c.args.legend.now c.args.below.now c.requires.below (λ e fits. c.loop-edge.invariant e (omega (arith, fits, c.loop-edge-test.false, c.edge_count-edge-end.ensures.value)))

pub loop-edge-init : goal.loop-edge-init
loop-edge-init c = λ e less. absurd (omega (arith, less))

pub bounds-below-edge : goal.bounds-below-edge
bounds-below-edge c = omega (arith, c.loop-edge-test.true, c.edge_count-edge-end.ensures.value, c.requires.below.as_many)

pub is_next-requires-clause-as_many : goal.is_next-requires-clause-as_many
is_next-requires-clause-as_many c = c.requires.as_many

pub is_next-requires-clause-in_range : goal.is_next-requires-clause-in_range
is_next-requires-clause-in_range c = subst (λ n. c.loop-edge.edge < n) c.edge_count-edge-end.ensures.value c.loop-edge-test.true

pub is_next-requires-clause-just_below : goal.is_next-requires-clause-just_below
is_next-requires-clause-just_below c = c.requires.below.are c.loop-edge.edge (subst (λ n. c.loop-edge.edge < n) c.edge_count-edge-end.ensures.value c.loop-edge-test.true)

pub returns-in_err-is_next : goal.returns-in_err-is_next
returns-in_err-is_next c = IfOk-from_err _ _ c.from_residual.ensures.0

pub returns-then-not-branch : goal.returns-then-not-branch
returns-then-not-branch c = λ same. absurd (true≢false (sym same))

pub loop-edge-preserved : goal.loop-edge-preserved
loop-edge-preserved c = λ e less. elim (cases_eq e c.loop-edge.edge) [
  | inl same ↦ subst (λ k. IsNext c.args.table.now c.args.legend.now (get_or c.args.below.now k None) k) (sym same) (c.in_ok-is_next.ensures c.if-not-branch.false)
  | inr other ↦ c.loop-edge.invariant e (let differ : e ≢ c.loop-edge.edge = other in omega (arith, less, differ))
]
