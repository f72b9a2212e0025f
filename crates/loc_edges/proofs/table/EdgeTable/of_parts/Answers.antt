use Rattle.std.proofs.Common.{◌≡◌, ℕ, ◌<◌, ◌≤◌, List, length, map, sym, ◌∙◌, ap, subst, arith}
use Rattle.std.specs.{Prelude.All, Prelude.IsTrue, List.Sorted.IsNonDecreasingBy}
use Rattle.loc_spec_plane.specs.{Covers.feature_count, declared.Mark.Mark, Lists.is_rising, Lists.numbers}
use Rattle.std.proofs.lemmas.Result.{IfOk-weaker}
use Rattle.loc_spec_plane.specs.{Points.Point, Points.before, Tables.IsTable}
use Rattle.loc_edges.specs.{Ending.row_of, Kept.AreEdges}
use Rattle.loc_edges.specs.Parts.{GoesUpBelow, edge_of_pair, table_of_parts, table_with}
use Rattle.loc_edges.proofs.PartRows.{parts-features, marked_edges_rise, parts-is_table, edges-are}
use Rattle.loc_edges.proofs.table.EdgeTable.of_parts.Goals as goal
use Rattle.loc_edges.proofs.table.EdgeTable.of_parts.Goals.{In_ok-rows}

-- the rows of marks that are made
rows_are : (c : In_ok-rows) → c.in_ok-rows.rows ≡ map (row_of c.args.marks.items) (numbers (length c.args.ends.items))
rows_are c = let count : c.len.result ≡ length c.args.ends.items = omega (arith, c.len.ensures) in c.in_ok-rows.ensures ∙ (ap (λ marks. map (row_of marks) (numbers c.len.result)) c.deref-3.ensures.value ∙ ap (λ n. map (row_of c.args.marks.items) (numbers n)) count)

pub by_key-requires-clause-in_order : goal.by_key-requires-clause-in_order
by_key-requires-clause-in_order c = subst (IsNonDecreasingBy (λ (m : ℕ × Mark). m.0)) (sym c.deref-3.ensures.value) (marked_edges_rise c.args.marks.items c.requires.marks_rise)

pub assemble-requires-clause-in_order : goal.assemble-requires-clause-in_order
assemble-requires-clause-in_order c = subst (λ rows. IsTable (table_with c.args.corners.items c.args.ends.items rows c.args.sources.items)) (sym (rows_are c)) (parts-is_table c.args.corners.items c.args.ends.items c.args.marks.items c.args.sources.items c.requires.corners_rise c.requires.edges_rise c.requires.edges_go_up c.requires.marks_rise c.requires.sources_fit c.requires.sources_go_up)

pub assemble-requires-clause-edges : goal.assemble-requires-clause-edges
assemble-requires-clause-edges c = subst (AreEdges (table_with c.args.corners.items c.args.ends.items c.in_ok-rows.rows c.args.sources.items)) (sym (c.in_ok-edges.ensures ∙ (ap (λ ends. map (edge_of_pair c.deref.result.now) ends) c.deref-2.ensures.value ∙ ap (λ corners. map (edge_of_pair corners) c.args.ends.items) c.deref.ensures.value))) (edges-are c.args.corners.items c.args.ends.items c.in_ok-rows.rows c.args.sources.items)

pub returns-clause-table : goal.returns-clause-table
returns-clause-table c = IfOk-weaker c.assemble.result _ (λ t. t ≡ table_of_parts c.args.corners.items c.args.ends.items c.args.marks.items c.args.sources.items) (λ t is. is ∙ ap (λ rows. table_with c.args.corners.items c.args.ends.items rows c.args.sources.items) (let count : c.len.result ≡ length c.args.ends.items = omega (arith, c.len.ensures) in c.in_ok-rows.ensures ∙ (ap (λ marks. map (row_of marks) (numbers c.len.result)) c.deref-3.ensures.value ∙ ap (λ n. map (row_of c.args.marks.items) (numbers n)) count))) c.assemble.ensures

pub returns-clause-features : goal.returns-clause-features
returns-clause-features c = IfOk-weaker c.assemble.result _ (λ t. (most : ℕ) → All (λ (m : ℕ × Mark). m.1.feature < most) c.args.marks.items → feature_count t ≤ most) (λ t is most each. subst (λ s. feature_count s ≤ most) (sym (is ∙ ap (λ rows. table_with c.args.corners.items c.args.ends.items rows c.args.sources.items) (let count : c.len.result ≡ length c.args.ends.items = omega (arith, c.len.ensures) in c.in_ok-rows.ensures ∙ (ap (λ marks. map (row_of marks) (numbers c.len.result)) c.deref-3.ensures.value ∙ ap (λ n. map (row_of c.args.marks.items) (numbers n)) count)))) (parts-features c.args.corners.items c.args.ends.items c.args.marks.items c.args.sources.items most each)) c.assemble.ensures

pub edges_between-requires-clause-in_order : goal.edges_between-requires-clause-in_order
edges_between-requires-clause-in_order c = subst (λ corners. IsTrue (is_rising before corners)) (sym c.deref.ensures.value) c.requires.corners_rise

pub edges_between-requires-clause-go_up : goal.edges_between-requires-clause-go_up
edges_between-requires-clause-go_up c = subst (All (GoesUpBelow (length c.deref.result.now))) (sym c.deref-2.ensures.value) (subst (λ (corners : List Point). All (GoesUpBelow (length corners)) c.args.ends.items) (sym c.deref.ensures.value) c.requires.edges_go_up)

pub by_key-requires-clause-in_range : goal.by_key-requires-clause-in_range
by_key-requires-clause-in_range c = subst (All (λ (m : ℕ × Mark). m.0 < c.len.result)) (sym c.deref-3.ensures.value) (λ k d lt. omega (arith, c.requires.marks_on_edges k d lt, c.len.ensures))

pub assemble-requires-clause-small : goal.assemble-requires-clause-small
assemble-requires-clause-small c = record { few_corners = c.requires.few_corners; few_edges = c.requires.few_edges }
