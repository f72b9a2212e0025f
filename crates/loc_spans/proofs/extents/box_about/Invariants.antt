use Rattle.std.proofs.Common.{◌≡◌, true, take}
use Rattle.std.specs.List.{list_all}
use Rattle.loc_laws_any.specs.Boxes.{is_boxed}
use Rattle.loc_spans.proofs.extents.box_about.Given as goal

-- the segments before are in the box
abbrev pub invariant-loop-segment : goal.invariant-loop-segment
invariant-loop-segment l = list_all (is_boxed l.around.span.lo l.around.span.hi l.around.low.y l.around.high.y) (take l.segment-index l.segments) ≡ true
