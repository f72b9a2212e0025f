use Rattle.std.proofs.Common.{◌≡◌, ℕ, List, sym, ◌∙◌, subst}
use Rattle.std.specs.Option.{option_map_or}
use Rattle.std.proofs.lemmas.Result.{IfOk-weaker}
use Rattle.loc_spec_plane.specs.{Points.Edge, Rings.Rings, Tables.IsTable, Tables.pieces_of, Tables.table_by}
use Rattle.loc_laws_noding.proofs.Tables.{is_table}
use Rattle.loc_edges.specs.{Kept.AreEdges, Layers.AreOfLayer, Parts.table_with, Small.IsSmallTable, Tagged.marks_in}
use Rattle.loc_edges.proofs.Ordered.{table_is, table_is-edges, table_is-small}
use Rattle.loc_edges.proofs.table.EdgeTable.of_marks.Goals as goal
use Rattle.loc_edges.proofs.table.EdgeTable.of_marks.Goals.{Start}

-- what is made
made : (c : Start) → table_with c.args.corners.items c.args.ends.items c.args.marks (option_map_or (λ kept. kept.items) c.args.sources c.args.ends.items) ≡ table_by c.requires.of_layer.0 c.requires.of_layer.1.0
made c = let of = c.requires.of_layer in table_is of.0 of.1.0 c.args.corners.items c.args.edges.items c.args.ends.items _ of.1.1.0 c.args.marks of.1.1.1.0 of.1.1.1.1

pub assemble-requires-clause-in_order : goal.assemble-requires-clause-in_order
assemble-requires-clause-in_order c =
    let of = c.requires.of_layer in
    subst IsTable (sym (made c)) (is_table of.0 of.1.0 of.1.1.1.0.is_cutting)

pub assemble-requires-clause-small : goal.assemble-requires-clause-small
assemble-requires-clause-small c =
    let of = c.requires.of_layer in
    subst IsSmallTable (sym (made c)) (table_is-small of.0 of.1.0 c.args.corners.items c.args.edges.items of.1.1.1.0.corners_are of.1.1.1.0.edges_are c.requires.few_corners c.requires.few_edges)

pub assemble-requires-clause-edges : goal.assemble-requires-clause-edges
assemble-requires-clause-edges c =
    let of = c.requires.of_layer in
    subst (AreEdges _) (sym of.1.1.1.0.edges_are) (subst (λ t. AreEdges t (pieces_of of.0 of.1.0)) (sym (made c)) (table_is-edges of.0 of.1.0 of.1.1.1.0.is_cutting))

pub returns : goal.returns
returns c = IfOk-weaker c.assemble.result _ (λ t. (cut : Edge → List Edge) (layer : List Rings) (tagged : List (Edge × ℕ)) → AreOfLayer cut layer c.args.corners.items c.args.edges.items c.args.ends.items _ tagged → c.args.marks ≡ marks_in tagged → t ≡ table_by cut layer) (λ t is cut layer tagged of marks. is ∙ table_is cut layer c.args.corners.items c.args.edges.items c.args.ends.items _ tagged c.args.marks of marks) c.assemble.ensures
