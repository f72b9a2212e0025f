use Rattle.std.proofs.Common.{◌∙◌}
use Rattle.std.proofs.lemmas.List.Filters.{dedup_is}
use Rattle.loc_spec_plane.specs.Points.{same_point}
use Rattle.loc_laws_order.proofs.Tests.{same_point_decides}
use Rattle.loc_laws_noding.proofs.{SortedSet.sorted_set-dedup, Orders.points_by_before}
use Rattle.loc_edges.proofs.sorted.sorted_points.Goals as goal

pub returns : goal.returns
returns c = c.shrink_to_fit.ensures.items ∙ (dedup_is same_point _ _ c.dedup.ensures.filtered ∙ sorted_set-dedup points_by_before same_point same_point_decides _ _ c.sort_unstable.ensures.permutation c.sort_unstable.ensures.sorted)
