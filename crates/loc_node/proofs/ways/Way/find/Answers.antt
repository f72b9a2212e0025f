use Rattle.std.proofs.Common.{◌≡◌, ℕ, ◌<◌, ◌≤◌, true, filter, get_or, length, sym, ◌∙◌, ap, subst, arith, to_z, of_z, to_z-of_z, ℤ}
use Rattle.std.specs.Int.{w128}
use Rattle.std.proofs.{lemmas.Int.ints, lemmas.Result.on_ok_weaker}
use borrow.Author.Differences.{fits_in}
use Rattle.loc_spec_plane.specs.Points.{Edge, Point, lies_on}
use Rattle.loc_laws_noding.specs.Search.{is_parallel, number_along}
use Rattle.loc_node.specs.Ways.{WayOrder, points_along, way_before}
use Rattle.loc_node.proofs.Along.{none_early, none_late}
use Rattle.loc_node.proofs.ways.Way.find.Goals as goal

pub gather-requires : goal.gather-requires
gather-requires c =
    let way : WayOrder = record { edge = c.self.inside.edge; order = c.self.inside.order.items } in
    let s : Edge = c.args.edge in
    let n = c.side_number.result in
    let fits = to_z-of_z (fits_in w128 n (omega (arith, ints, c.side_number.type_inv))) in
    let place : (to_z w128 (of_z w128 c.side_number.result), c.lo-low.result) ≡ (number_along c.self.inside.edge c.args.edge.lo, c.args.edge.lo) = ap (λ m. (m, c.lo-low.result)) (fits ∙ c.side_number.ensures) ∙ ap (λ (p : Point). (number_along c.self.inside.edge p, p)) c.lo-low.ensures in
    let parallel = subst (λ (w : WayOrder). is_parallel w.edge s ≡ true) (sym c.self.view_is) c.requires in
    let order = c.deref-2.result.now in
    let both : c.deref.result.now ≡ c.deref-2.result.now = c.deref.ensures.value ∙ sym c.deref-2.ensures.value in
    let passed = λ (k : ℕ) (d : ℤ × Point) (lt : k < c.first_from-start.result). ap (λ ks. way_before (get_or ks k d) (number_along way.edge s.lo, s.lo)) (sym both) ∙ (ap (way_before (get_or c.deref.result.now k d)) (sym place) ∙ c.first_from-start.ensures.passed k d lt) in
    let from = λ (k : ℕ) (d : ℤ × Point) (ge : c.first_from-start.result ≤ k) (lt : k < length c.deref-2.result.now). ap (λ ks. way_before (get_or ks k d) (number_along way.edge s.lo, s.lo)) (sym both) ∙ (ap (way_before (get_or c.deref.result.now k d)) (sym place) ∙ c.first_from-start.ensures.from k d ge (omega (arith, lt, ap length both))) in
    let within : c.first_from-start.result ≤ length c.deref-2.result.now = omega (arith, c.first_from-start.ensures.within, ap length both) in
    record {
      within = within;
      so_far = c.clear.ensures.items ∙ sym (none_early way c.self.invariant order c.deref-2.ensures.value s c.hi-upper.ensures.goes_up parallel c.first_from-start.result within passed);
      over = none_late way c.self.invariant order c.deref-2.ensures.value s c.hi-upper.ensures.goes_up parallel c.first_from-start.result from;
    }

pub returns : goal.returns
returns c = on_ok_weaker c.gather.result (λ is. is ∙ (ap (λ ks. filter (lies_on c.args.edge) (points_along ks)) c.deref-2.ensures.value ∙ ap (λ (w : WayOrder). filter (lies_on c.args.edge) (points_along w.order)) c.self.view_is)) c.gather.ensures
