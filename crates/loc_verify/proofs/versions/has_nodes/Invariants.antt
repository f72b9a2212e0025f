use Rattle.std.proofs.Common.{ℕ, ◌≤◌}
use Rattle.loc_pool.specs.{declared.Link.Link, Maps.links, Rows.row, Rows.IsPlace}
use Rattle.loc_persist.specs.Numbered.{IsNodeRow}
use Rattle.loc_spec_index.specs.Nodes.{row_of}
use Rattle.loc_verify.proofs.versions.has_nodes.Given as goal

-- the rows before are those of the tree
abbrev pub invariant-loop-before : goal.invariant-loop-before
invariant-loop-before l = (number : ℕ) → 1 ≤ number → number ≤ l.before → (link : Link) × IsPlace (links l.tree.rows) link number × IsNodeRow l.tree.rows (row l.tree.rows link) (row_of l.held.content.nodes number)
