use Rattle.std.proofs.Common.{◌∙◌, ap}
use Rattle.std.proofs.lemmas.Result.{on_ok_weaker}
use Rattle.loc_spec_plane.specs.{Points.before, Lists.is_rising, Tables.neighbour_edges}
use Rattle.loc_laws_noding.proofs.{Orders.points_by_before, SortedSet.rising-sorted_set}
use Rattle.loc_node.proofs.finder.Finder.cut.Goals as goal

pub neighbours-requires : goal.neighbours-requires
neighbours-requires c = record { in_order = ap (is_rising before) (c.deref.ensures.value ∙ c.sort_points.ensures) ∙ rising-sorted_set points_by_before c.find_on.new.found.items }

pub returns : goal.returns
returns c = on_ok_weaker c.neighbours.result (λ is. is ∙ ap neighbour_edges (c.deref.ensures.value ∙ (c.sort_points.ensures ∙ c.in_ok-find_on.ensures))) c.neighbours.ensures
