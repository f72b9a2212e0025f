use Rattle.std.proofs.Common.{get_or, arith}
use Rattle.loc_spec_plane.specs.Tables.{corner, edge, lo_of}
use Rattle.loc_laws_order.proofs.TableOrder.{edge_up}
use Rattle.loc_status.proofs.Standing.{chain_in_range, member_alive, is_place_for, below_by_placing}
use Rattle.loc_status.proofs.places.place_for.Goals as goal

pub search-place-requires-clause-in_range : goal.search-place-requires-clause-in_range
search-place-requires-clause-in_range c = let t = c.args.ranks.now in chain_in_range t (corner t (lo_of t c.args.edge)) c.args.list.now c.requires.chain

pub placing-requires-clause-first_alive : goal.placing-requires-clause-first_alive
placing-requires-clause-first_alive c = let t = c.args.ranks.now in member_alive t (corner t (lo_of t c.args.edge)) c.args.list.now c.requires.chain c.search-place.result (omega (arith, c.search-place.ensures.within))

pub returns-then-place-list-clause-ok : goal.returns-then-place-list-clause-ok
returns-then-place-list-clause-ok c =
    let t = c.args.ranks.now in
    is_place_for t c.args.edge c.args.list.now c.requires.chain (edge_up t c.law.ensures.in_order c.args.edge c.requires.in_range) c.search-place.result c.search-place.ensures (λ less. absurd (omega arith))

pub returns-in-Below-clause-ok : goal.returns-in-Below-clause-ok
returns-in-Below-clause-ok c =
    let t = c.args.ranks.now in
    is_place_for t c.args.edge c.args.list.now c.requires.chain (edge_up t c.law.ensures.in_order c.args.edge c.requires.in_range) c.search-place.result c.search-place.ensures
    (λ less. below_by_placing (edge t (get_or c.args.list.now c.search-place.result 0)) (edge t c.args.edge) c.placing.result c.placing.ensures.value (c.search-place.ensures.reached less) c.in-Below.is)

pub returns-in-Hits-clause-ok : goal.returns-in-Hits-clause-ok
returns-in-Hits-clause-ok c = tt
