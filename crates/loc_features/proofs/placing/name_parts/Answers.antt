use Rattle.std.proofs.Common.{◌≡◌, ◌<◌, List, length, get_or, take, sym, ◌∙◌, ap, subst, arith}
use Rattle.std.proofs.lemmas.List.Elements.{All-get_or}
use Rattle.loc_spec_plane.specs.declared.Place.TheVariants.{Corner}
use Rattle.loc_edges.specs.Layers.{layer_rings}
use Rattle.loc_parts.specs.{Parts.IsPartOf, Parts.part_numbers, declared.parts.Part.Part}
use Rattle.loc_features.specs.{Gathered.Names, Places.IsAt}
use Rattle.loc_features.proofs.Together.{part_more, part_room}
use Rattle.loc_features.proofs.placing.name_parts.Goals as goal

pub name_part-requires-clause-place : goal.name_part-requires-clause-place
name_part-requires-clause-place g c =
    let parts = c.args.parted.now.parts.items in
    let k = c.loop-k.k in
    let part = c.part-item.result in
    let at : part ≡ get_or parts k part = c.part-item.is ∙ ap (λ (all : List Part). get_or all k part) c.deref-part-items.ensures.value in
    let lt : k < length parts = omega (arith, c.loop-k-test.true, ap length c.deref-part-items.ensures.value) in
    subst (λ (one : Part). IsAt one c.args.found.now.point (get_or c.args.found.now.places k (Corner 0))) (sym at) (c.requires.known k part (Corner 0) lt)

pub name_part-requires-clause-touching : goal.name_part-requires-clause-touching
name_part-requires-clause-touching g c =
    let parts = c.args.parted.now.parts.items in
    let k = c.loop-k.k in
    let part = c.part-item.result in
    let at : part ≡ get_or parts k part = c.part-item.is ∙ ap (λ (all : List Part). get_or all k part) c.deref-part-items.ensures.value in
    let lt : k < length parts = omega (arith, c.loop-k-test.true, ap length c.deref-part-items.ensures.value) in
    omega (arith, ap (λ (one : Part). length one.numbers.items) at, part_room c.requires.parted.0 c.args.parted.now c.requires.parted.1 k (length c.loop-k.lists.touching) part lt (c.loop-k.invariant c.requires.parted.0 c.requires.parted.1).few_touching)

pub name_part-requires-clause-covering : goal.name_part-requires-clause-covering
name_part-requires-clause-covering g c =
    let parts = c.args.parted.now.parts.items in
    let k = c.loop-k.k in
    let part = c.part-item.result in
    let at : part ≡ get_or parts k part = c.part-item.is ∙ ap (λ (all : List Part). get_or all k part) c.deref-part-items.ensures.value in
    let lt : k < length parts = omega (arith, c.loop-k-test.true, ap length c.deref-part-items.ensures.value) in
    omega (arith, ap (λ (one : Part). length one.numbers.items) at, part_room c.requires.parted.0 c.args.parted.now c.requires.parted.1 k (length c.loop-k.lists.covering) part lt (c.loop-k.invariant c.requires.parted.0 c.requires.parted.1).few_covering)

pub loop-k-preserved : goal.loop-k-preserved
loop-k-preserved g c layer is =
    let parts = c.args.parted.now.parts.items in
    let k = c.loop-k.k in
    let part = c.part-item.result in
    let at : part ≡ get_or parts k part = c.part-item.is ∙ ap (λ (all : List Part). get_or all k part) c.deref-part-items.ensures.value in
    let lt : k < length parts = omega (arith, c.loop-k-test.true, ap length c.deref-part-items.ensures.value) in
    let own = subst (IsPartOf layer) (sym at) (All-get_or (IsPartOf layer) parts k part lt is.parts) in
    subst (λ lists. Names (layer_rings layer) c.args.found.now.point lists c.name_part.new.lists) (part_more parts k part lt at) (c.name_part.ensures layer (take k (part_numbers parts)) own (c.loop-k.invariant layer is))
