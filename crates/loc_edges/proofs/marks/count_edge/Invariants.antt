use Rattle.std.proofs.Common.{◌≡◌, take}
use Rattle.loc_edges.specs.Tagged.{marks_of}
use Rattle.loc_edges.proofs.marks.count_edge.Given as goal

-- the features before are counted
abbrev pub invariant-loop-feature : goal.invariant-loop-feature
invariant-loop-feature l = l.row.items ≡ marks_of (take l.feature-index l.features)
