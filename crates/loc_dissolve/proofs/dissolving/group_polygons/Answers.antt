use Rattle.std.proofs.Common.{sym, ◌∙◌, subst}
use Rattle.loc_spec_plane.specs.Tables.{NoConflict}
use Rattle.loc_laws_dissolve.proofs.Grouped.{table_law}
use Rattle.loc_dissolve.specs.Grouping.{in_group}
use Rattle.loc_dissolve.proofs.dissolving.group_polygons.Goals as goal

pub subdivide-requires : goal.subdivide-requires
subdivide-requires c = subst NoConflict (sym c.in_ok-group_table.ensures) (table_law c.args.table.now c.law.ensures.in_order c.requires.all_ends c.requires.all_even c.requires.apart (in_group c.args.groups.now c.args.group)).3

pub own_polygons-polygons-requires-clause-own : goal.own_polygons-polygons-requires-clause-own
own_polygons-polygons-requires-clause-own c = c.in_ok-own.ensures.table ∙ c.in_ok-group_table.ensures
