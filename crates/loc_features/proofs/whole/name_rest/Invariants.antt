use Rattle.std.proofs.Common.{◌≤◌, ◌+◌, ◌++◌, List, take}
use Rattle.std.specs.Prelude.{sum_by}
use Rattle.loc_rings.specs.Values.{Feature}
use Rattle.loc_edges.specs.Layers.{layer_rings}
use Rattle.loc_parts.specs.Parts.{IsParted, left_numbers, part_numbers}
use Rattle.loc_features.specs.Gathered.{Names, segments_at}
use Rattle.loc_features.proofs.whole.name_rest.Given as goal

-- the features of all parts are named, and of what is left before
abbrev pub invariant-loop-left : goal.invariant-loop-left
invariant-loop-left g l = record {
  names : (layer : List Feature) → IsParted layer l.parted → Names (layer_rings layer) l.p (part_numbers l.parted.parts.items) l.fn.lists → Names (layer_rings layer) l.p (part_numbers l.parted.parts.items ++ take l.left-index (left_numbers l.parted.left.items)) l.lists;
  up : l.fn.steps ≤ l.steps;
  within : (layer : List Feature) → IsParted layer l.parted → l.steps ≤ l.fn.steps + sum_by (sum_by (segments_at (layer_rings layer))) (take l.left-index (left_numbers l.parted.left.items));
}
