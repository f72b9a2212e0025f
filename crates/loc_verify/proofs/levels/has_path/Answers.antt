use Rattle.std.proofs.Common.{◌≡◌, ◌+◌, ◌∙◌, ap, length, set, true, subst, sym, arith}
use Rattle.std.proofs.lemmas.Result.{IfOk-from_err}
use Rattle.loc_spec_index.specs.Content.{root_of}
use Rattle.loc_verify.specs.Readings.{AreReached, HasNode, IsNextLevel}
use Rattle.loc_verify.proofs.LevelSteps.{path_there, reached_more, reached_none}
use Rattle.loc_verify.proofs.levels.has_path.Goals as goal

pub loop-turn-preserved : goal.loop-turn-preserved
loop-turn-preserved c = reached_more c.args.held.now.content.nodes c.args.version (root_of c.args.held.now.content c.args.version) c.loop-turn._turn c.loop-turn.level.items c.in_ok-level-2.level.items c.loop-turn.invariant
    (subst (λ flags. IsNextLevel c.args.held.now.content.nodes c.args.version flags c.in_ok-level-2.level.items) c.deref.ensures.value c.in_ok-level-2.ensures)

pub returns : goal.returns
returns c =
    let end : c.loop-turn._turn ≡ c.args.turns = omega (arith, c.loop-turn-test.false, c.loop-turn.auto._turn-end) in
    let there = path_there c.args.held.now.content.nodes c.args.version (root_of c.args.held.now.content c.args.version) c.args.turns c.loop-turn.level.items (subst (λ k. AreReached c.args.held.now.content.nodes c.args.version (root_of c.args.held.now.content c.args.version) k c.loop-turn.level.items) end c.loop-turn.invariant) in (
      λ found. there.0 (subst HasNode c.deref-2.ensures.value (c.is_some_node.ensures.0 found)),
      λ path. c.is_some_node.ensures.1 (subst HasNode (sym c.deref-2.ensures.value) (there.1 path)),
    )

pub returns-in_err-level : goal.returns-in_err-level
returns-in_err-level c = IfOk-from_err _ _ c.from_residual.ensures.0

pub returns-in_err-level-2 : goal.returns-in_err-level-2
returns-in_err-level-2 c = IfOk-from_err _ _ c.from_residual-in_err-level-2.ensures.0

pub loop-turn-init : goal.loop-turn-init
loop-turn-init c =
    let rows = c.args.held.now.content.nodes in
    subst (λ n. AreReached rows c.args.version n 0 (set c.in_ok-level.level.items c.root.result true)) c.root.ensures.value (reached_none rows c.args.version c.root.result (c.nodes.result + 1) c.in_ok-level.level.items (ap (λ n. n + 1) c.nodes.ensures) c.root.ensures.within (c.in_ok-level.ensures.items_if_clones_equal (λ y same. same)))

pub root-requires : goal.root-requires
root-requires c = c.requires

pub next_level-requires : goal.next_level-requires
next_level-requires c = ap length c.deref.ensures.value ∙ c.loop-turn.invariant.as_many

pub index_mut-requires : goal.index_mut-requires
index_mut-requires c = omega (arith, c.root.ensures.within, c.in_ok-level.ensures.len, c.nodes.ensures)
