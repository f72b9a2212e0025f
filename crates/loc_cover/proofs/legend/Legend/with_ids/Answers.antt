use Rattle.std.proofs.Common.{◌≡◌, ◌<◌, ◌≤◌, ◌^◌, length, get_or, sym, ◌∙◌, ap, subst, arith, None}
use Rattle.std.specs.Prelude.{All, IfSome}
use Rattle.std.proofs.lemmas.List.{get_or_default, length-map}
use Rattle.loc_spec_plane.specs.{Tables.corner, Places.IsFloor, Places.IsJustBelow, Covers.feature_count}
use Rattle.loc_cover.specs.Legends.{AreLists}
use Rattle.loc_cover.proofs.Sound.{are_lists, covers_named, floor_in_range}
use Rattle.loc_cover.proofs.legend.Legend.with_ids.Goals as goal

pub assemble-requires-clause-lists : goal.assemble-requires-clause-lists
assemble-requires-clause-lists c = subst (AreLists (length c.args.table.now.ends)) (sym c.in_ok-covers.ensures.lists) (are_lists c.args.table.now c.in_ok-covers.ensures.few)

pub assemble-requires-clause-few_features : goal.assemble-requires-clause-few_features
assemble-requires-clause-few_features c = subst (λ n. n ≤ 2 ^ 18) (sym (ap length c.in_ok-ids.ensures ∙ length-map c.args.ids.items (λ id. id.items))) c.requires.few_features

pub assemble-requires-clause-features : goal.assemble-requires-clause-features
assemble-requires-clause-features c = subst (λ n. feature_count c.args.table.now ≤ n) (sym (ap length c.in_ok-ids.ensures ∙ length-map c.args.ids.items (λ id. id.items))) c.requires.features

pub assemble-requires-clause-lists_named : goal.assemble-requires-clause-lists_named
assemble-requires-clause-lists_named c =
    let as_many : length c.in_ok-ids.ids ≡ length c.args.ids.items = ap length c.in_ok-ids.ensures ∙ length-map c.args.ids.items (λ id. id.items) in
    subst (All (All (λ f. f < length c.in_ok-ids.ids))) (sym c.in_ok-covers.ensures.lists) (covers_named c.args.table.now (length c.in_ok-ids.ids) (subst (λ n. feature_count c.args.table.now ≤ n) (sym as_many) c.requires.features))

pub assemble-requires-clause-above_in_range : goal.assemble-requires-clause-above_in_range
assemble-requires-clause-above_in_range c = λ e d fits.
    (let at = c.in_ok-covers.ensures.above e (omega (arith, c.in_ok-covers.ensures.as_many)) in
    omega (arith, at.fits, get_or_default c.in_ok-covers.cover_of.items e d 0 fits, ap length c.in_ok-covers.ensures.lists))

pub assemble-requires-clause-floors_in_range : goal.assemble-requires-clause-floors_in_range
assemble-requires-clause-floors_in_range c =
    let t = c.args.table.now in
    let are = c.in_ok-floors.ensures.items ∙ c.of_corner.ensures in
    subst (All (λ floor. IfSome floor (λ e. e < length c.args.table.now.ends))) (sym are) (λ k d fits.
    (let inside : k < length c.args.table.now.corners = omega (arith, c.requires.swept.as_many_corners) in
    subst (λ o. IfSome o (λ e. e < length c.args.table.now.ends)) (get_or_default c.args.floors.now.of_corner k None d fits) (floor_in_range t k (get_or c.args.floors.now.of_corner k None) (c.requires.swept.of_corner k inside))))

pub assemble-requires-clause-as_many_corners : goal.assemble-requires-clause-as_many_corners
assemble-requires-clause-as_many_corners c = ap length c.in_ok-floors.ensures.items ∙ (ap length c.of_corner.ensures ∙ c.requires.swept.as_many_corners)

pub returns-clause-is_true : goal.returns-clause-is_true
returns-clause-is_true c =
    let t = c.args.table.now in
    let made = c.in_ok-assemble.ensures in
    record {
      lists = made.lists ∙ c.in_ok-covers.ensures.lists;
      above = λ e inside. rw (made.lists, made.above, c.in_ok-covers.ensures.lists) (c.in_ok-covers.ensures.above e inside).at;
      floors = λ n inside. subst (λ floors. IsFloor t (corner t n) (get_or floors n None)) (sym (made.floors ∙ (c.in_ok-floors.ensures.items ∙ c.of_corner.ensures))) (c.requires.swept.of_corner n inside);
    }

pub cover_rows-requires-clause-even : goal.cover_rows-requires-clause-even
cover_rows-requires-clause-even c = record { all_ends = c.requires.all_ends; all_even = c.requires.all_even; apart = c.requires.apart }

pub cover_rows-requires-clause-below : goal.cover_rows-requires-clause-below
cover_rows-requires-clause-below c = record {
  as_many = ap length c.of_edge.ensures ∙ c.requires.swept.as_many_edges;
  are = λ e fits. subst (λ below. IsJustBelow c.args.table.now e (get_or below e None)) (sym c.of_edge.ensures) (c.requires.swept.of_edge e fits);
}

pub assemble-requires-clause-as_many_edges : goal.assemble-requires-clause-as_many_edges
assemble-requires-clause-as_many_edges c = c.in_ok-covers.ensures.as_many

pub returns-clause-ids : goal.returns-clause-ids
returns-clause-ids c = c.in_ok-assemble.ensures.ids ∙ c.in_ok-ids.ensures

pub returns-clause-fits : goal.returns-clause-fits
returns-clause-fits c = c.in_ok-assemble.ensures.fits

pub returns-clause-few : goal.returns-clause-few
returns-clause-few c = c.in_ok-covers.ensures.few

pub returns-clause-refused : goal.returns-clause-refused
returns-clause-refused c = tt
