use Rattle.std.proofs.Common.{◌≡◌, List}
use Rattle.std.proofs.lemmas.Result.{IfOk-weaker}
use Rattle.loc_spec_plane.specs.{Points.Edge, Rings.Rings, Tables.table_by}
use Rattle.loc_edges.specs.Layers.{AreOfLayer}
use Rattle.loc_edges.proofs.table.EdgeTable.of_tagged.Goals as goal

pub of_marks-requires-clause-of_layer : goal.of_marks-requires-clause-of_layer
of_marks-requires-clause-of_layer c = let of = c.requires.of_layer in (of.0, (of.1.0, (c.args.tagged.items, (of.1.1, c.in_ok-marks.ensures))))

pub returns : goal.returns
returns c = IfOk-weaker c.of_marks.result _ (λ t. (cut : Edge → List Edge) (layer : List Rings) → AreOfLayer cut layer c.args.corners.items c.args.edges.items c.args.ends.items c.args.sources.items c.args.tagged.items → t ≡ table_by cut layer) (λ t is cut layer of. is cut layer c.args.tagged.items of c.in_ok-marks.ensures) c.of_marks.ensures
