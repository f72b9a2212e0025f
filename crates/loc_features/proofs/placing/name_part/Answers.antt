use Rattle.std.proofs.Common.{ℕ, ◌++◌, Bool, List, ap₂, filter, get_or, [], length, ◌∙◌, ap, arith}
use Rattle.std.proofs.lemmas.List.{length-map}
use Rattle.loc_spec_plane.specs.Rings.{touches, covers}
use Rattle.loc_laws_order.proofs.Kept.{is_in-filter}
use Rattle.loc_laws_any.specs.Unions.{by_place}
use Rattle.loc_edges.specs.Layers.{layer_rings}
use Rattle.loc_cover.specs.Legends.{covering, touching}
use Rattle.loc_features.proofs.{Naming.few_kept, Placed.others_are, Placed.placed, Together.more_named}
use Rattle.loc_features.proofs.placing.name_part.Goals as goal

pub touching_at-touching-requires : goal.touching_at-touching-requires
touching_at-touching-requires c = record { in_range = placed c.args.part.now.plane.table c.args.part.now.plane.legend c.args.place c.requires.part.1.map.fits c.requires.place.in_range }

pub listed_at-requires : goal.listed_at-requires
listed_at-requires c = record { in_range = placed c.args.part.now.plane.table c.args.part.now.plane.legend c.args.place c.requires.part.1.map.fits c.requires.place.in_range }

pub touch_all-requires-clause-room : goal.touch_all-requires-clause-room
touch_all-requires-clause-room c =
    let layer = c.requires.part.0 in
    let part = c.args.part.now in
    let rows = part.plane.legend in
    let test : ℕ → Bool = λ n. touches (get_or (layer_rings layer) n []) c.args.p in
    omega (arith, ap length c.touching_at-touching.ensures.value, length-map (touching rows c.args.place) (λ k. get_or part.numbers.items k 0), ap length (c.part_law.ensures.touching layer c.requires.part.1), few_kept test part.numbers.items, c.requires.touching)

pub cover_others-requires-clause-room : goal.cover_others-requires-clause-room
cover_others-requires-clause-room c =
    let layer = c.requires.part.0 in
    let part = c.args.part.now in
    let rows = part.plane.legend in
    let test : ℕ → Bool = λ n. covers (get_or (layer_rings layer) n []) c.args.p in
    omega (
      arith,
      ap length c.touch_all.ensures.covering,
      ap length (others_are rows c.args.place c.touching_at-touching.result.now c.listed_at.result.now c.touching_at-touching.ensures.value c.listed_at.ensures.value),
      length-map (covering rows c.args.place) (λ k. get_or part.numbers.items k 0),
      ap length (c.part_law.ensures.covering layer c.requires.part.1),
      few_kept test part.numbers.items,
      c.requires.covering,
    )

pub returns : goal.returns
returns c layer named is names =
    let part = c.args.part.now in
    let ns = part.numbers.items in
    let rows = part.plane.legend in
    let rings = layer_rings layer in
    let p = c.args.p in
    let touching_test : ℕ → Bool = λ n. touches (get_or rings n []) p in
    let covering_test : ℕ → Bool = λ n. covers (get_or rings n []) p in
    let others = others_are rows c.args.place c.touching_at-touching.result.now c.listed_at.result.now c.touching_at-touching.ensures.value c.listed_at.ensures.value in
    more_named rings p named ns c.args.lists.now c.cover_others.new.lists names (filter touching_test ns) (filter covering_test ns)
    (c.cover_others.ensures.touching ∙ (c.touch_all.ensures.touching ∙ ap (λ ms. c.args.lists.now.touching ++ ms) (ap (λ (own : List ℕ). by_place own c.touching_at-touching.result.now) c.deref.ensures.value ∙ (ap (by_place ns) c.touching_at-touching.ensures.value ∙ c.part_law.ensures.touching layer is))))
    (c.cover_others.ensures.covering ∙ ap₂ (λ (before more : List ℕ). before ++ more) c.touch_all.ensures.covering (ap₂ by_place c.deref-2.ensures.value others ∙ c.part_law.ensures.covering layer is))
    (λ n. is_in-filter touching_test n ns) (λ n. is_in-filter covering_test n ns) (few_kept touching_test ns) (few_kept covering_test ns)
