use Rattle.std.proofs.Common.{◌≡◌, map, take}
use Rattle.loc_spans.specs.Boxes.{Kept}
use Rattle.loc_spans.proofs.boxes.moments_of.Given as goal

abbrev pub invariant-loop-kept : goal.invariant-loop-kept
invariant-loop-kept l = l.moments.items ≡ map (λ (box : Kept). box.0) (take l.kept-index l.boxes)
