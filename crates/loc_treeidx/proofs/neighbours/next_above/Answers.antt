use Rattle.std.proofs.Common.{refl}
use Rattle.loc_pool.specs.declared.Turn.TheVariants.{Left}
use Rattle.loc_treeidx.proofs.Hanging.{hanging_row, hanging_left, hanging_lower, neighbour_above}
use Rattle.loc_treeidx.proofs.neighbours.next_above.Goals as goal

pub item-requires : goal.item-requires
item-requires c = hanging_row c.args.versions.now _ c.in-Some.at _ _ c.down.invariant c.in-Some.is

pub newest_child-next-requires : goal.newest_child-next-requires
newest_child-next-requires c = hanging_row c.args.versions.now _ c.in-Some.at _ _ c.down.invariant c.in-Some.is

pub down-smaller : goal.down-smaller
down-smaller c = hanging_lower c.args.versions.now _ c.in-Some.at _ _ c.down.invariant c.in-Some.is c.sealed-sealed.ensures.facts Left _ c.newest_child-next.ensures

pub down-preserved : goal.down-preserved
down-preserved c = hanging_left c.args.versions.now _ c.in-Some.at _ _ c.down.invariant c.in-Some.is c.item.result c.item.ensures c.newest_child-next.result c.newest_child-next.ensures

pub returns : goal.returns
returns c = neighbour_above c.args.versions.now _ _ _ c.down.invariant c.in_default.is c.args.edge refl
