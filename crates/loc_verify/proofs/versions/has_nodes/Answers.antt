use Rattle.std.proofs.Common.{◌≡◌, ◌+◌, ◌-◌, ◌≤◌, ◌∙◌, Some, refl, sym, subst, inl, inr, arith}
use Rattle.std.specs.Prelude.{slice_get}
use Rattle.std.proofs.lemmas.Bool.{cases_lt, true≢false}
use Rattle.loc_pool.specs.{declared.Link.Link, Maps.links, Rows.row}
use Rattle.loc_persist.specs.Numbered.{IsNodeRow}
use Rattle.loc_spec_index.specs.Nodes.{row_of}
use Rattle.loc_verify.proofs.versions.has_nodes.Goals as goal

pub loop-before-preserved : goal.loop-before-preserved
loop-before-preserved c = λ number one le.
    (let rows = c.args.tree.now.rows in
    let nodes = c.args.held.now.content.nodes in
    elim (cases_lt number (c.loop-before.before + 1)) [
      | inl before ↦ c.loop-before.invariant number one (omega (arith, before))
      | inr from ↦ (let here : c.loop-before.before + 1 ≡ number = omega (arith, le, from) in
          let found = c.row-in-loop-before.ensures.row in
          subst (λ n. (x : Link) × ((1 ≤ n) × (slice_get (links rows) (n - 1) ≡ Some x)) × IsNodeRow rows (row rows x) (row_of nodes n)) here
          (found.0, found.1, subst (IsNodeRow rows (row rows found.0)) (sym (c.if-not-is_same.ensures refl) ∙ c.row.ensures.value) found.2))
    ])

pub returns-then-nodes : goal.returns-then-nodes
returns-then-nodes c = λ same. absurd (true≢false (sym same))

pub returns-then-not-is_same : goal.returns-then-not-is_same
returns-then-not-is_same c = λ same. absurd (true≢false (sym same))

pub loop-before-init : goal.loop-before-init
loop-before-init c = λ number one le. absurd (omega (arith, one, le))

pub row-requires : goal.row-requires
row-requires c = (omega arith, omega (arith, c.nodes-before-end.ensures, c.loop-before-test.true))

pub row-requires-in-loop-before : goal.row-requires-in-loop-before
row-requires-in-loop-before c = (omega arith, omega (arith, c.nodes-before-end.ensures, c.loop-before-test.true))

pub returns : goal.returns
returns c = λ _. record { as_many = sym c.nodes.ensures ∙ (c.if-nodes.false ∙ c.nodes-2.ensures.count); each = λ number one le. c.loop-before.invariant number one (omega (arith, le, c.loop-before-test.false, c.nodes-before-end.ensures.count)) }
