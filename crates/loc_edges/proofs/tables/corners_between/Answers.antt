use Rattle.std.proofs.Common.{◌≡◌, ◌∙◌, ap}
use Rattle.loc_spec_plane.specs.{Points.before, Lists.sorted_set}
use Rattle.loc_laws_noding.specs.Laws.{ends_of}
use Rattle.loc_laws_noding.proofs.{Orders.points_by_before, SortedSet.same-sorted_set}
use Rattle.loc_edges.proofs.{Layers.corners_from_edges, tables.corners_between.Goals.After-sorted_points}
use Rattle.loc_edges.proofs.tables.corners_between.Goals as goal

-- what is made
made : (c : After-sorted_points) → c.sorted_points.result.items ≡ sorted_set before (ends_of c.args.edges.now)
made c = c.sorted_points.ensures ∙ same-sorted_set points_by_before _ (ends_of c.args.edges.now) c.in_ok-ends.ensures

pub returns-clause-value : goal.returns-clause-value
returns-clause-value c = made c

pub returns-clause-of_layer : goal.returns-clause-of_layer
returns-clause-of_layer c = λ layer is. made c ∙ (ap (λ es. sorted_set before (ends_of es)) is ∙ corners_from_edges layer)
