use Rattle.std.proofs.Common.{drop}
use Rattle.loc_spec_plane.specs.Rings.{segments}
use Rattle.loc_spec_text.specs.Reading.{all_rings}
use Rattle.loc_rings.proofs.Passes.{IsPassed}
use Rattle.loc_rings.proofs.containment.parity.Given as goal

abbrev pub invariant-loop-n : goal.invariant-loop-n
invariant-loop-n l = IsPassed (segments (all_rings l.rings)) (segments (drop l.n (all_rings l.rings))) l.p l.odd
