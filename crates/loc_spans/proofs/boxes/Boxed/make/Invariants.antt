use Rattle.std.proofs.Common.{map}
use Rattle.loc_rings.specs.Values.{rings_of}
use Rattle.loc_spans.specs.Boxes.{AreBoxes, AreKept}
use Rattle.loc_spans.proofs.boxes.Boxed.make.Given as goal

-- the features before are kept
abbrev pub invariant-loop-number : goal.invariant-loop-number
invariant-loop-number l = AreKept (map rings_of l.layer) l.kept.items l.number × AreBoxes (map rings_of l.layer) l.boxes.items l.number
