use Rattle.std.proofs.Common.{◌-◌}
use Rattle.loc_spec_plane.specs.Tables.{corner, hi_of}
use Rattle.loc_status.proofs.Standing.{chain_in_range}
use Rattle.loc_treeidx.proofs.{Descents.here_row, Descents.here_item, Hanging.hanging_left, Hanging.hanging_right}
use Rattle.loc_treeidx.proofs.Ways.{never_missing, stopped}
use Rattle.loc_treeidx.proofs.node.node_of.Goals as goal

pub walk_to-way-requires-clause-in_range : goal.walk_to-way-requires-clause-in_range
walk_to-way-requires-clause-in_range c = let t = c.args.ranks.now in chain_in_range t (corner t (hi_of t c.args.edge - 1)) c.args.versions.now.list c.requires.chain

pub unreachable-requires : goal.unreachable-requires
unreachable-requires c = never_missing c.args.ranks.now c.law.ensures.in_order c.args.versions.now c.args.edge c.walk_to-way.new.path.items c.walk_to-way.result c.requires.in_range c.requires.chain c.requires.listed c.walk_to-way.ensures.way c.in_default.is

pub newest_child-left-requires : goal.newest_child-left-requires
newest_child-left-requires c = here_row c.args.versions.now _ _ c.in-Some.at _ _ c.walk_to-way.ensures.way.descent c.in-Some.is

pub next_below-below-requires : goal.next_below-below-requires
next_below-below-requires c =
    let m = c.args.versions.now in
    let way = c.walk_to-way.result in
    hanging_left m _ c.in-Some.at _ _ (c.walk_to-way.new.path.items, c.walk_to-way.ensures.way.descent) c.in-Some.is c.args.edge (stopped m way.next c.in-Some.at c.args.edge c.in-Some.is c.walk_to-way.ensures.stops) c.newest_child-left.result c.newest_child-left.ensures

pub newest_child-right-requires : goal.newest_child-right-requires
newest_child-right-requires c = here_row c.args.versions.now _ _ c.in-Some.at _ _ c.walk_to-way.ensures.way.descent c.in-Some.is

pub next_above-above-requires : goal.next_above-above-requires
next_above-above-requires c =
    let m = c.args.versions.now in
    let way = c.walk_to-way.result in
    hanging_right m _ c.in-Some.at _ _ (c.walk_to-way.new.path.items, c.walk_to-way.ensures.way.descent) c.in-Some.is c.args.edge (stopped m way.next c.in-Some.at c.args.edge c.in-Some.is c.walk_to-way.ensures.stops) c.newest_child-right.result c.newest_child-right.ensures

pub returns-clause-node : goal.returns-clause-node
returns-clause-node c =
    let m = c.args.versions.now in
    let r = here_item m _ _ c.in-Some.at _ _ c.walk_to-way.ensures.way.descent c.in-Some.is c.args.edge (stopped m c.walk_to-way.result.next c.in-Some.at c.args.edge c.in-Some.is c.walk_to-way.ensures.stops) in
    record { front = r.front; back = r.back; leads = r.leads; whole = r.whole }

pub returns-clause-beside : goal.returns-clause-beside
returns-clause-beside c = record { below = c.next_below-below.ensures; above = c.next_above-above.ensures }
