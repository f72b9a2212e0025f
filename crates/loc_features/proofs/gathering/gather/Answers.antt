use Rattle.std.proofs.Common.{◌≡◌, ◌+◌, ◌<◌, [], length, get_or, map, filter, take, sym, ◌∙◌, ap, subst, arith, length-append}
use Rattle.std.proofs.{lemmas.List.get_or_default, lemmas.List.length-map, lemmas.List.Sums.sum_by-take-le}
use Rattle.loc_spec_plane.specs.Rings.{touches, covers}
use Rattle.loc_laws_any.specs.Unions.{part_of}
use Rattle.loc_edges.specs.Layers.{layer_rings}
use Rattle.loc_spans.specs.{Boxes.rings_at, Parity.IsAnswer}
use Rattle.loc_features.specs.Gathered.{NamesAll, number_of, segment_count}
use Rattle.loc_features.proofs.Naming.{counted_more, few_boxes, few_named, names_more, names_none, names_up_to, none_at}
use Rattle.loc_features.proofs.gathering.gather.Goals as goal

pub loop-k-init : goal.loop-k-init
loop-k-init g c =
    let left = c.args.left.now in
    record {
      within = omega arith;
      names = λ layer is. names_none (part_of left.numbers.items (layer_rings layer)) left.boxed left.numbers.items c.args.p c.args.lists.now;
      up = omega arith;
      within_steps = omega arith;
    }

pub parity-parity-requires : goal.parity-parity-requires
parity-parity-requires g c =
    let is = c.left_law.ensures c.requires.left.0 c.requires.left.1 in
    let d = none_at c.args.p in
    record { in_range = omega (arith, (is.each c.in-Some.k d c.in-Some.ensures.in_range).0, is.kept.many, c.feature-feature.ensures d) }

pub note-requires-clause-touching : goal.note-requires-clause-touching
note-requires-clause-touching g c =
    let layer = c.requires.left.0 in
    let left = c.args.left.now in
    let part = part_of left.numbers.items (layer_rings layer) in
    let is = c.left_law.ensures layer c.requires.left.1 in
    let near = c.in-Some.ensures.near part is in
    let named = map (number_of left.numbers.items) (filter (λ box. touches (rings_at part box) c.args.p) (take c.loop-k.from left.boxed.boxes)) in
    omega (arith, ap length (c.loop-k.invariant.names layer c.requires.left.1).touching, length-append c.args.lists.now.touching named, few_named (λ box. touches (rings_at part box) c.args.p) (number_of left.numbers.items) left.boxed.boxes c.loop-k.from c.loop-k.invariant.within, near.0, c.in-Some.ensures.in_range, few_boxes part left.boxed is, length-map left.numbers.items (λ n. get_or (layer_rings layer) n []), c.requires.touching)

pub note-requires-clause-covering : goal.note-requires-clause-covering
note-requires-clause-covering g c =
    let layer = c.requires.left.0 in
    let left = c.args.left.now in
    let part = part_of left.numbers.items (layer_rings layer) in
    let is = c.left_law.ensures layer c.requires.left.1 in
    let near = c.in-Some.ensures.near part is in
    let named = map (number_of left.numbers.items) (filter (λ box. covers (rings_at part box) c.args.p) (take c.loop-k.from left.boxed.boxes)) in
    omega (arith, ap length (c.loop-k.invariant.names layer c.requires.left.1).covering, length-append c.args.lists.now.covering named, few_named (λ box. covers (rings_at part box) c.args.p) (number_of left.numbers.items) left.boxed.boxes c.loop-k.from c.loop-k.invariant.within, near.0, c.in-Some.ensures.in_range, few_boxes part left.boxed is, length-map left.numbers.items (λ n. get_or (layer_rings layer) n []), c.requires.covering)

pub overflow_add-from : goal.overflow_add-from
overflow_add-from g c =
    let layer = c.requires.left.0 in
    let left = c.args.left.now in
    let few = few_boxes (part_of left.numbers.items (layer_rings layer)) left.boxed (c.left_law.ensures layer c.requires.left.1) in
    omega (arith, c.in-Some.ensures.in_range, few, length-map left.numbers.items (λ n. get_or (layer_rings layer) n []), c.requires.touching)

pub index-requires : goal.index-requires
index-requires g c =
    let layer = c.requires.left.0 in
    let left = c.args.left.now in
    let is = c.left_law.ensures layer c.requires.left.1 in
    let d = none_at c.args.p in
    omega (arith, (is.each c.in-Some.k d c.in-Some.ensures.in_range).0, c.feature-feature.ensures d, length-map left.numbers.items (λ n. get_or (layer_rings layer) n []))

pub loop-k-preserved : goal.loop-k-preserved
loop-k-preserved g c =
    let left = c.args.left.now in
    let ns = left.numbers.items in
    let b = left.boxed in
    let p = c.args.p in
    let d = none_at c.args.p in
    let k = c.in-Some.k in
    let lt = c.in-Some.ensures.in_range in
    let own = c.requires.left.0 in
    let all = c.left_law.ensures own c.requires.left.1 in
    let in_range : c.feature-feature.result < length ns = omega (arith, (all.each k d lt).0, c.feature-feature.ensures d, length-map ns (λ n. get_or (layer_rings own) n [])) in
    let number : c.index.result.now ≡ number_of ns (get_or b.boxes k d) =
    c.index.ensures ∙ (get_or_default ns c.feature-feature.result c.index.result.now 0 in_range ∙ ap (λ f. get_or ns f 0) (c.feature-feature.ensures d)) in
    record {
      within = omega (arith, lt);
      names = λ layer is.
          let part = part_of ns (layer_rings layer) in
          let boxed = c.left_law.ensures layer is in
          let near = c.in-Some.ensures.near part boxed in
          subst (λ l. NamesAll part b ns p (c.in-Some.k + 1) c.args.lists.now l) (sym c.note.ensures)
          (names_more part b ns p c.args.lists.now k c.index.result.now d c.loop-k.lists c.parity-parity.result
          (names_up_to part b ns p c.args.lists.now c.loop-k.from k d c.loop-k.lists (c.loop-k.invariant.names layer is) near.0 (omega (arith, lt)) near.2) lt number
          (subst (λ f. IsAnswer (get_or part f []) c.args.p c.parity-parity.result) (c.feature-feature.ensures d) (c.parity-parity.ensures.answer part boxed)));
      up = omega (arith, c.loop-k.invariant.up, c.parity-parity.ensures.counted);
      within_steps = omega (
        arith,
        c.loop-k.invariant.within_steps,
        c.parity-parity.ensures.within,
        counted_more b c.loop-k.from k c.feature-feature.result d (c.in-Some.ensures.near (part_of ns (layer_rings own)) all).0 lt (c.feature-feature.ensures d),
      );
    }

pub returns-clause-names : goal.returns-clause-names
returns-clause-names g c = λ layer is.
    let left = c.args.left.now in
    let part = part_of left.numbers.items (layer_rings layer) in
    names_up_to part left.boxed left.numbers.items c.args.p c.args.lists.now c.loop-k.from (length left.boxed.boxes) (none_at c.args.p) c.loop-k.lists (c.loop-k.invariant.names layer is) c.loop-k.invariant.within (omega arith) (c.in_default.ensures.near part (c.left_law.ensures layer is))

pub returns-clause-within : goal.returns-clause-within
returns-clause-within g c = omega (arith, c.loop-k.invariant.within_steps, sum_by-take-le (segment_count c.args.left.now.boxed) c.args.left.now.boxed.boxes c.loop-k.from)
