use Rattle.std.proofs.Common.{◌≡◌, ◌<◌, List, true, filter, get_or, length, sym, ◌∙◌, ap, subst, arith}
use Rattle.std.specs.List.Sorted.{IsPermutation}
use Rattle.std.proofs.lemmas.Result.{on_ok_weaker}
use Rattle.loc_spec_plane.specs.{Points.before, Points.lies_on, Lists.sorted_set}
use Rattle.loc_laws_noding.specs.Search.{is_parallel}
use Rattle.loc_node.specs.Ways.{WayOrder, points_along}
use Rattle.loc_node.proofs.Neighbours.{kept_sorted, same_sorted}
use Rattle.loc_node.proofs.finder.Finder.find_on.Goals as goal

pub find-requires : goal.find-requires
find-requires c =
    let n = c.way_number-n.result in
    let r = c.index.result.now in
    let fits : c.way_number-n.result < length c.deref.result.now = omega (arith, c.if-n-len.true, c.len.ensures, ap length c.deref.ensures.value) in
    let same = ap (λ (ws : List WayOrder). get_or ws n r) c.deref.ensures.value ∙ sym c.index.ensures in
    subst (λ (w : WayOrder). is_parallel w.edge c.args.edge ≡ true) same (c.way_number-n.ensures r fits)

pub returns-then-n-len : goal.returns-then-n-len
returns-then-n-len c =
    let n = c.way_number-n.result in
    let r = c.index.result.now in
    let points = c.self.inside.points.items in
    let on = lies_on c.args.edge in
    let fits : c.way_number-n.result < length c.self.inside.ways.items = omega (arith, c.if-n-len.true, c.len.ensures) in
    let moved = subst (λ (w : WayOrder). IsPermutation points (points_along w.order)) (sym c.index.ensures) (c.self.invariant.1 n r fits) in
    on_ok_weaker c.find.result (λ is. ap (sorted_set before) is ∙ (kept_sorted on (points_along r.order) ∙ ap (filter on) (same_sorted points (points_along r.order) moved ∙ c.self.view_is))) c.find.ensures

pub returns : goal.returns
returns c =
    let on = lies_on c.args.edge in
    on_ok_weaker c.find-2.result (λ is. ap (sorted_set before) (is ∙ ap (filter on) c.deref-2.ensures.value) ∙ (kept_sorted on c.self.inside.points.items ∙ ap (filter on) c.self.view_is)) c.find-2.ensures
