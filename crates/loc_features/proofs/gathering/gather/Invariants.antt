use Rattle.std.proofs.Common.{◌≤◌, ◌+◌, ◌-◌, List, length, take}
use Rattle.std.specs.Prelude.{sum_by}
use Rattle.loc_rings.specs.Values.{Feature}
use Rattle.loc_edges.specs.Layers.{layer_rings}
use Rattle.loc_laws_any.specs.Unions.{part_of}
use Rattle.loc_parts.specs.Parts.{IsLeftOf}
use Rattle.loc_features.specs.Gathered.{NamesAll, segment_count}
use Rattle.loc_features.proofs.gathering.gather.Given as goal

-- the features of the boxes before are named
abbrev pub invariant-loop-k : goal.invariant-loop-k
invariant-loop-k g l = record {
  within : l.from ≤ length l.left.boxed.boxes;
  names : (layer : List Feature) → IsLeftOf layer l.left → NamesAll (part_of l.left.numbers.items (layer_rings layer)) l.left.boxed l.left.numbers.items l.p l.from l.fn.lists l.lists;
  up : l.fn.steps ≤ l.steps;
  within_steps : l.steps ≤ l.fn.steps + sum_by (segment_count l.left.boxed) (take l.from l.left.boxed.boxes);
}

abbrev pub decreases-loop-k : goal.decreases-loop-k
decreases-loop-k g l = length l.left.boxed.boxes - l.from
