use Rattle.std.proofs.Common.{◌≡◌, ℕ, ◌<◌, [], length, get_or, refl, sym, ◌∙◌, subst, arith}
use Rattle.std.specs.Prelude.{All, IsTrue, nat_lt}
use Rattle.loc_spec_plane.specs.{Lists.IsRisingListOf, Lists.is_rising, Tables.edge_numbers, Tables.has, Covers.has_at}
use Rattle.loc_laws_rays.proofs.Members.{feature_below}
use Rattle.loc_cover.specs.Legends.{AreLists}
use Rattle.loc_cover.proofs.Sound.{each_row, floor_there, marked_there, named_by, none_named}
use Rattle.loc_cover.proofs.legend.Legend.assemble.Goals as goal

pub invariant_of-result : goal.invariant_of-result
invariant_of-result c =
    let t = c.args.table.now in
    let rows = c.in_ok-on_corner.on_corner in
    let edge_rows = c.in_ok-on_edge.on_edge in
    let lists = c.args.lists in
    let corners : length c.in_ok-on_corner.on_corner ≡ length t.corners = c.in_ok-on_corner.ensures.as_many in
    let edges : length c.in_ok-on_edge.on_edge ≡ length t.ends = c.in_ok-on_edge.ensures.as_many in
    let most = length c.args.ids in
    let corner_rows : (n : ℕ) → n < length c.in_ok-on_corner.on_corner → IsRisingListOf nat_lt (has_at c.args.table.now n) (get_or c.in_ok-on_corner.on_corner n []) = λ n fits. c.in_ok-on_corner.ensures.each n (omega (arith, corners)) in
    let marked_rows : (n : ℕ) → n < length c.in_ok-on_edge.on_edge → IsRisingListOf nat_lt (λ f. has c.args.table.now f n) (get_or c.in_ok-on_edge.on_edge n []) = λ n fits. c.in_ok-on_edge.ensures.each n (omega (arith, edges)) in
    record {
      few_features = c.requires.few_features;
      few_edges = omega (arith, edges, c.law.ensures.small.few_edges);
      lists = subst (λ n. AreLists n lists) (sym edges) c.requires.lists;
      as_many_floors = c.requires.as_many_corners ∙ sym corners;
      as_many_above = c.requires.as_many_edges ∙ sym edges;
      floors_in_range = λ k e at. omega (arith, edges, floor_there c.args.floors.items (length t.ends) c.requires.floors_in_range k e at);
      above_in_range = λ e fits. omega (arith, c.requires.above_in_range e 0 fits);
      corners_named = each_row (λ n fs. IsRisingListOf nat_lt (has_at t n) fs) (All (λ f. f < most)) rows (λ n fs are. named_by (has_at t n) most fs are (λ f h. omega (arith, marked_there t n f (edge_numbers t) h, c.requires.features))) (none_named most) corner_rows;
      edges_named = each_row (λ n fs. IsRisingListOf nat_lt (λ f. has t f n) fs) (All (λ f. f < most)) edge_rows (λ n fs are. named_by (λ f. has t f n) most fs are (λ f h. omega (arith, feature_below t f n h, c.requires.features))) (none_named most) marked_rows;
      corners_rise = each_row (λ n fs. IsRisingListOf nat_lt (has_at t n) fs) (λ fs. IsTrue (is_rising nat_lt fs)) rows (λ n fs are. are.rising) refl corner_rows;
      edges_rise = each_row (λ n fs. IsRisingListOf nat_lt (λ f. has t f n) fs) (λ fs. IsTrue (is_rising nat_lt fs)) edge_rows (λ n fs are. are.rising) refl marked_rows;
      lists_named = each_row (λ n fs. All (λ f. f < most) fs) (All (λ f. f < most)) lists (λ n fs are. are) (none_named most) (λ n fits. c.requires.lists_named n [] fits);
    }
