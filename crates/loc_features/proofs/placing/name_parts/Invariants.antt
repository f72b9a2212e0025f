use Rattle.std.proofs.Common.{List, take}
use Rattle.loc_rings.specs.Values.{Feature}
use Rattle.loc_edges.specs.Layers.{layer_rings}
use Rattle.loc_parts.specs.Parts.{IsParted, part_numbers}
use Rattle.loc_features.specs.Gathered.{Names}
use Rattle.loc_features.proofs.placing.name_parts.Given as goal

-- the features of the parts before are named
abbrev pub invariant-loop-k : goal.invariant-loop-k
invariant-loop-k g l = (layer : List Feature) → IsParted layer l.parted → Names (layer_rings layer) l.found.point (take l.k (part_numbers l.parted.parts.items)) l.lists
