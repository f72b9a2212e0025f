use Rattle.std.proofs.Common.{◌≡◌, ◌<◌, ◌++◌, List, [], length, get_or, take, sym, ◌∙◌, ap, subst, arith}
use Rattle.std.specs.Prelude.{sum_by}
use Rattle.std.proofs.{lemmas.List.length-map, lemmas.List.Elements.All-get_or, lemmas.List.Sums.sum_by_more}
use Rattle.loc_edges.specs.Layers.{layer_rings}
use Rattle.loc_parts.specs.{Parts.IsLeftOf, Parts.left_numbers, Parts.part_numbers, declared.parts.Left.Left}
use Rattle.loc_features.specs.Gathered.{Names, segments_at}
use Rattle.loc_features.proofs.Together.{few_left, left_at, left_more, left_room}
use Rattle.loc_features.proofs.whole.name_rest.Goals as goal

pub name_left-requires-clause-touching : goal.name_left-requires-clause-touching
name_left-requires-clause-touching g c =
    let k = c.loop-left.left-index in
    let left = c.left-item.result in
    let is = c.requires.parted.1 in
    let at : left ≡ get_or c.args.parted.now.left.items k left = c.left-item.is ∙ ap (λ (rest : List Left). get_or rest k left) c.deref-left-items.ensures.value in
    omega (arith, ap (λ (one : Left). length one.numbers.items) at, left_room c.requires.parted.0 c.args.parted.now is k (length c.loop-left.lists.touching) left (omega (arith, c.loop-left-test.true, ap length c.deref-left-items.ensures.value)) (c.loop-left.invariant.names c.requires.parted.0 is c.requires.parted.2).few_touching)

pub name_left-requires-clause-covering : goal.name_left-requires-clause-covering
name_left-requires-clause-covering g c =
    let k = c.loop-left.left-index in
    let left = c.left-item.result in
    let is = c.requires.parted.1 in
    let at : left ≡ get_or c.args.parted.now.left.items k left = c.left-item.is ∙ ap (λ (rest : List Left). get_or rest k left) c.deref-left-items.ensures.value in
    omega (arith, ap (λ (one : Left). length one.numbers.items) at, left_room c.requires.parted.0 c.args.parted.now is k (length c.loop-left.lists.covering) left (omega (arith, c.loop-left-test.true, ap length c.deref-left-items.ensures.value)) (c.loop-left.invariant.names c.requires.parted.0 is c.requires.parted.2).few_covering)

pub loop-left-preserved : goal.loop-left-preserved
loop-left-preserved g c =
    let parted = c.args.parted.now in
    let lists = left_numbers parted.left.items in
    let k = c.loop-left.left-index in
    let left = c.left-item.result in
    let at : left ≡ get_or parted.left.items k left = c.left-item.is ∙ ap (λ (rest : List Left). get_or rest k left) c.deref-left-items.ensures.value in
    let lt : k < length parted.left.items = omega (arith, c.loop-left-test.true, ap length c.deref-left-items.ensures.value) in
    record {
      names = λ layer is named.
          let own = subst (IsLeftOf layer) (sym at) (All-get_or (IsLeftOf layer) parted.left.items k left lt is.left) in
          subst (λ all. Names (layer_rings layer) c.args.p all c.name_left.new.lists) (left_more (part_numbers parted.parts.items) parted.left.items k left lt at)
          (c.name_left.ensures.names layer (part_numbers parted.parts.items ++ take k lists) own (c.loop-left.invariant.names layer is named));
      up = omega (arith, c.loop-left.invariant.up, c.name_left.ensures.counted);
      within = λ layer is.
          let w = segments_at (layer_rings layer) in
          let own = subst (IsLeftOf layer) (sym at) (All-get_or (IsLeftOf layer) parted.left.items k left lt is.left) in
          omega (
            arith,
            c.loop-left.invariant.within layer is,
            c.name_left.ensures.within layer own,
            ap (sum_by w) (left_at parted.left.items k left lt at),
            sum_by_more (sum_by w) lists k [] (omega (arith, lt, length-map parted.left.items (λ (one : Left). one.numbers.items))),
          );
    }

pub returns-clause-within : goal.returns-clause-within
returns-clause-within g c layer is = omega (arith, c.loop-left.invariant.within layer is, few_left layer c.args.parted.now is c.loop-left.left-index)
