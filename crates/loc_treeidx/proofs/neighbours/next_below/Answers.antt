use Rattle.std.proofs.Common.{refl}
use Rattle.loc_pool.specs.declared.Turn.TheVariants.{Right}
use Rattle.loc_treeidx.proofs.Hanging.{hanging_row, hanging_right, hanging_lower, neighbour_below}
use Rattle.loc_treeidx.proofs.neighbours.next_below.Goals as goal

pub returns : goal.returns
returns c = neighbour_below c.args.versions.now _ _ _ c.down.invariant c.in_default.is c.args.edge refl

pub down-preserved : goal.down-preserved
down-preserved c = hanging_right c.args.versions.now _ c.in-Some.at _ _ c.down.invariant c.in-Some.is c.item.result c.item.ensures c.newest_child-next.result c.newest_child-next.ensures

pub down-smaller : goal.down-smaller
down-smaller c = hanging_lower c.args.versions.now _ c.in-Some.at _ _ c.down.invariant c.in-Some.is c.sealed-sealed.ensures.facts Right _ c.newest_child-next.ensures

pub item-requires : goal.item-requires
item-requires c = hanging_row c.args.versions.now _ c.in-Some.at _ _ c.down.invariant c.in-Some.is

pub newest_child-next-requires : goal.newest_child-next-requires
newest_child-next-requires c = hanging_row c.args.versions.now _ c.in-Some.at _ _ c.down.invariant c.in-Some.is
