use Rattle.std.proofs.Common.{◌≢◌, ◌∙◌, get_or, false, refl, sym, ap, inl, inr, arith}
use Rattle.std.proofs.lemmas.Bool.{cases_eq, true≢false}
use Rattle.loc_verify.proofs.LevelSteps.{flag_within}
use Rattle.loc_verify.proofs.levels.is_some_node.Goals as goal

pub loop-node-init : goal.loop-node-init
loop-node-init c = λ m some less. absurd (some (omega (arith, less)))

pub returns-then-level-node : goal.returns-then-level-node
returns-then-level-node c = (λ _. (c.loop-node.node, (λ none. omega (arith, none, c.loop-node.auto.node)), c.if-level-node.true), λ _. refl)

pub loop-node-preserved : goal.loop-node-preserved
loop-node-preserved c = λ m some less. elim (cases_eq m c.loop-node.node) [
  | inl same ↦ ap (λ k. get_or c.args.level.now k false) same ∙ c.if-level-node.false
  | inr other ↦ c.loop-node.invariant m some (let differ : m ≢ c.loop-node.node = other in omega (arith, less, differ))
]

pub returns : goal.returns
returns c = (λ h. absurd (true≢false (sym h)), λ there. (let fits = flag_within c.args.level.now there.0 there.2 in absurd (true≢false (sym there.2 ∙ c.loop-node.invariant there.0 there.1 (omega (arith, fits, c.loop-node-test.false))))))
