use Rattle.std.proofs.Common.{◌≡◌, true, false, not, true≢false, length, sym, ap, ◌∙◌, subst, Some, None}
use Rattle.loc_spec_plane.specs.{Lists.is_in, Places.alive_at, Tables.corner, Tables.edge, Tables.lo_of}
use Rattle.std.specs.Prelude.{IfSome}
use Rattle.std.proofs.lemmas.Option.{slice_get_within, get_or_from_slice_get}
use Rattle.loc_persist.specs.Meaning.{present_nodes}
use Rattle.loc_laws_order.proofs.ListLaws.{is_in-get}
use Rattle.loc_status.proofs.Beginning.{begins_below}
use Rattle.loc_status.proofs.Standing.{chain_in_range, member_alive, below_by_placing}
use Rattle.loc_status.specs.Targets.{begins_above}
use Rattle.loc_treeidx.proofs.{Descents.above_there, Ways.never_stops, Ways.place_of_way, Ways.way_end}
use Rattle.loc_treeidx.proofs.places.place_for.Goals as goal

pub walk_to-way-requires-clause-in_range : goal.walk_to-way-requires-clause-in_range
walk_to-way-requires-clause-in_range c = let t = c.args.ranks.now in chain_in_range t (corner t (lo_of t c.args.edge)) c.args.versions.now.list c.requires.chain

pub placing-requires-clause-different : goal.placing-requires-clause-different
placing-requires-clause-different c same =
    let m = c.args.versions.now in
    let path = c.walk_to-way.new.path.items in
    let way = c.walk_to-way.result in
    let g = way_end _ None m path way c.walk_to-way.ensures.way (never_stops m way.next c.walk_to-way.ensures.stops) in
    let at = sym (above_there (present_nodes m) m.list path way.beside.below way.beside.above g) ∙ c.in-Some.is in
    true≢false (sym c.requires.is_new ∙ ap not (subst (λ k. is_in k m.list ≡ true) same (is_in-get m.list (length g.front) c.in-Some.next at)))

pub placing-requires-clause-first_alive : goal.placing-requires-clause-first_alive
placing-requires-clause-first_alive c =
    let t = c.args.ranks.now in
    let m = c.args.versions.now in
    let path = c.walk_to-way.new.path.items in
    let way = c.walk_to-way.result in
    let g = way_end _ None m path way c.walk_to-way.ensures.way (never_stops m way.next c.walk_to-way.ensures.stops) in
    let p = corner t (lo_of t c.args.edge) in
    let at = sym (above_there (present_nodes m) m.list path way.beside.below way.beside.above g) ∙ c.in-Some.is in
    subst (λ a. alive_at t p a ≡ true) (get_or_from_slice_get m.list (length g.front) c.in-Some.next 0 at) (member_alive t p m.list c.requires.chain (length g.front) (slice_get_within m.list (length g.front) c.in-Some.next at))

pub returns-in-Hits-clause-err : goal.returns-in-Hits-clause-err
returns-in-Hits-clause-err c =
    let m = c.args.versions.now in
    let path = c.walk_to-way.new.path.items in
    let way = c.walk_to-way.result in
    let g = way_end _ None m path way c.walk_to-way.ensures.way (never_stops m way.next c.walk_to-way.ensures.stops) in
    (is_in-get m.list (length g.front) c.in-Some.next (sym (above_there (present_nodes m) m.list path way.beside.below way.beside.above g) ∙ c.in-Some.is), c.in-Hits.ensures.value)

pub returns-in-Hits-clause-ok : goal.returns-in-Hits-clause-ok
returns-in-Hits-clause-ok c = tt

pub returns-in-None-clause-ok : goal.returns-in-None-clause-ok
returns-in-None-clause-ok c =
    let t = c.args.ranks.now in
    let m = c.args.versions.now in
    let path = c.walk_to-way.new.path.items in
    let way = c.walk_to-way.result in
    place_of_way t c.law.ensures.in_order c.args.edge c.requires.in_range m path way c.requires.chain c.walk_to-way.ensures.way (never_stops m way.next c.walk_to-way.ensures.stops) (λ next is. (let clash : None ≡ Some next = sym c.in-None.is ∙ is in cc))

pub returns-in-Below-clause-ok : goal.returns-in-Below-clause-ok
returns-in-Below-clause-ok c =
    let t = c.args.ranks.now in
    let m = c.args.versions.now in
    let path = c.walk_to-way.new.path.items in
    let way = c.walk_to-way.result in
    place_of_way t c.law.ensures.in_order c.args.edge c.requires.in_range m path way c.requires.chain c.walk_to-way.ensures.way (never_stops m way.next c.walk_to-way.ensures.stops)
    (λ next is. (let both : Some c.in-Some.next ≡ Some next = sym c.in-Some.is ∙ is in
    let same : c.in-Some.next ≡ next = cc in
    let off = subst (λ o. IfSome o (λ item. begins_above (edge t item) (edge t c.args.edge) ≡ false)) c.in-Some.is c.walk_to-way.ensures.way.reached in
    subst (λ a. begins_below (edge t a) (edge t c.args.edge) ≡ true) same (below_by_placing (edge t c.in-Some.next) (edge t c.args.edge) c.placing.result c.placing.ensures.value off c.in-Below.is)))
