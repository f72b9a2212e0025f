use Rattle.std.proofs.Common.{◌≡◌, ℕ, ◌<◌, Bool, true, None, ap, sym, subst, length}
use Rattle.std.specs.List.{All}
use Rattle.loc_persist.specs.Meaning.{VersionsMeaning, present_nodes}
use Rattle.loc_spec_plane.specs.{Points.is_above, Tables.corner, Tables.edge}
use Rattle.loc_laws_order.specs.Laws.{last_that}
use Rattle.loc_status.specs.Lists.{is_chain_at}
use Rattle.loc_status.proofs.{Ends.last_found, Standing.chain_in_range, Standing.none_above_later}
use Rattle.loc_treeidx.proofs.{Descents.below_there, Ways.never_stops, Ways.way_end, Ways.way_search}
use Rattle.loc_treeidx.proofs.tree_index.TreeIndexStatus.floor.Goals as goal

pub walk_to-way-requires-clause-in_range : goal.walk_to-way-requires-clause-in_range
walk_to-way-requires-clause-in_range c =
    let t = c.args.ranks.now in
    subst (λ es. All (λ e. e < length t.ends) es) (sym (ap (λ (m : VersionsMeaning). m.list) c.self.view_is)) (chain_in_range t (corner t c.args.corner) c.args.self.now.list c.requires.chain)

pub returns : goal.returns
returns c =
    let t = c.args.ranks.now in
    let m = c.self.inside.versions in
    let path = c.walk_to-way.new.path.items in
    let way = c.walk_to-way.result in
    let test : ℕ → Bool = λ e. is_above (edge t e) (corner t c.args.corner) in
    let none = never_stops m way.next c.walk_to-way.ensures.stops in
    let g = way_end test None m path way c.walk_to-way.ensures.way none in
    let stop = way_search test None m path way c.walk_to-way.ensures.way none in
    let list_is = ap (λ (m : VersionsMeaning). m.list) c.self.view_is in
    let chain = subst (λ es. is_chain_at t c.args.corner es ≡ true) (sym list_is) c.requires.chain in
    subst (λ es. way.beside.below ≡ last_that test es) list_is
    (last_found test m.list (length g.front) way.beside.below stop (none_above_later t c.args.corner m.list chain (length g.front) stop) g.below.none (below_there (present_nodes m) m.list path way.beside.below way.beside.above g))
