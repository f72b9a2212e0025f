use Rattle.std.proofs.Common.{length, map, filter, take, arith}
use Rattle.loc_spec_plane.specs.Rings.{touches, covers}
use Rattle.loc_laws_any.specs.Unions.{part_of}
use Rattle.loc_edges.specs.Layers.{layer_rings}
use Rattle.loc_spans.specs.Boxes.{rings_at}
use Rattle.loc_features.specs.Gathered.{number_of}
use Rattle.loc_features.proofs.Naming.{few_counted, few_numbered, none_cover, none_touch, numbered}
use Rattle.loc_features.proofs.Together.{more_named}
use Rattle.loc_features.proofs.gathering.name_left.Goals as goal

pub returns-clause-names : goal.returns-clause-names
returns-clause-names g c layer named is names =
    let left = c.args.left.now in
    let ns = left.numbers.items in
    let rings = layer_rings layer in
    let p = c.args.p in
    let boxed = c.left_law.ensures layer is in
    let all = c.gather.ensures.names layer is in
    let boxes = take (length left.boxed.boxes) left.boxed.boxes in
    more_named rings p named ns c.args.lists.now c.gather.new.lists names
    (map (number_of ns) (filter (λ box. touches (rings_at (part_of ns rings) box) p) boxes)) (map (number_of ns) (filter (λ box. covers (rings_at (part_of ns rings) box) p) boxes)) all.touching all.covering
    (numbered (λ feature. touches feature p) (none_touch p) rings ns left.boxed boxed) (numbered (λ feature. covers feature p) (none_cover p) rings ns left.boxed boxed)
    (few_numbered (λ box. touches (rings_at (part_of ns rings) box) p) rings ns left.boxed boxed) (few_numbered (λ box. covers (rings_at (part_of ns rings) box) p) rings ns left.boxed boxed)

pub returns-clause-within : goal.returns-clause-within
returns-clause-within g c layer is =
    let left = c.args.left.now in
    omega (arith, c.gather.ensures.within, few_counted (layer_rings layer) left.numbers.items left.boxed (c.left_law.ensures layer is))
