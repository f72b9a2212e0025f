use Rattle.std.proofs.Common.{◌+◌, ◌≤◌, ◌∙◌, ap, subst, sym, arith, length}
use Rattle.std.proofs.lemmas.Result.{IfOk-from_err}
use Rattle.loc_spec_index.specs.{declared.NodeRow.NodeRow, Nodes.Left, Nodes.Right, Nodes.child}
use Rattle.loc_file.proofs.Walked.{child-within}
use Rattle.loc_verify.proofs.LevelSteps.{children_more, children_same, children_all, children_none}
use Rattle.loc_verify.proofs.levels.next_level.Goals as goal
use Rattle.loc_verify.proofs.levels.next_level.Goals.{then-level-before, else-level-before}

pub loop-before-preserved : goal.loop-before-preserved
loop-before-preserved c =
    let rows = c.args.held.now.content.nodes in
    let k = c.loop-before.before + 1 in
    elim c.if-level-before.branch [
      | then-level-before w ↦ rw w.next-is (children_more rows c.args.version c.args.level.now k w.left_of.result w.right_of.result c.loop-before.next.items (λ none. omega (arith, none)) w.if-level-before.true
          (subst (λ n. n ≤ length rows) (sym w.left_of.ensures) (child-within (length c.args.held.now.content.edges) (length rows) w.row-row.result Left c.args.version w.row-row.ensures.within))
          (subst (λ n. n ≤ length rows) (sym w.right_of.ensures) (child-within (length c.args.held.now.content.edges) (length rows) w.row-row.result Right c.args.version w.row-row.ensures.within))
          (w.left_of.ensures ∙ ap (λ (row : NodeRow). child row Left c.args.version) w.row-row.ensures.value)
          (w.right_of.ensures ∙ ap (λ (row : NodeRow). child row Right c.args.version) w.row-row.ensures.value) c.loop-before.invariant)
      | else-level-before w ↦ rw w.next-is (children_same rows c.args.version c.args.level.now k c.loop-before.next.items w.if-level-before.false c.loop-before.invariant)
    ]

pub returns-in_err-next : goal.returns-in_err-next
returns-in_err-next c = IfOk-from_err _ _ c.from_residual.ensures.0

pub loop-before-init : goal.loop-before-init
loop-before-init c = children_none c.args.held.now.content.nodes c.args.version c.args.level.now (length c.args.level.now) c.in_ok-next.next.items c.requires (c.in_ok-next.ensures.items_if_clones_equal (λ y same. same))

pub returns : goal.returns
returns c = children_all c.args.held.now.content.nodes c.args.version c.args.level.now (c.loop-before.before + 1) c.loop-before.next.items c.requires (omega (arith, c.loop-before-test.false, c.nodes-before-end.ensures)) c.loop-before.invariant

pub bounds-level-before : goal.bounds-level-before
bounds-level-before c = omega (arith, c.requires, c.nodes-before-end.ensures, c.loop-before-test.true)

pub row-row-requires : goal.row-row-requires
row-row-requires c = (omega arith, omega (arith, c.nodes-before-end.ensures, c.loop-before-test.true))

pub index_mut-requires : goal.index_mut-requires
index_mut-requires c =
    let rows = c.args.held.now.content.nodes in
    let fits : c.left_of.result ≤ length rows = subst (λ n. n ≤ length rows) (sym c.left_of.ensures) (child-within (length c.args.held.now.content.edges) (length rows) c.row-row.result Left c.args.version c.row-row.ensures.within) in
    omega (arith, fits, c.loop-before.next.ok.0, c.loop-before.invariant.as_many)

pub index_mut-requires-then-level-before : goal.index_mut-requires-then-level-before
index_mut-requires-then-level-before c =
    let rows = c.args.held.now.content.nodes in
    let fits : c.right_of.result ≤ length rows = subst (λ n. n ≤ length rows) (sym c.right_of.ensures) (child-within (length c.args.held.now.content.edges) (length rows) c.row-row.result Right c.args.version c.row-row.ensures.within) in
    omega (arith, fits, c.loop-before.next.ok.0, c.loop-before.invariant.as_many)
