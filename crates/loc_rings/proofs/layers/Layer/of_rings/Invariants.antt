use Rattle.std.proofs.Common.{◌≡◌, ◌*◌, ◌≤◌, length, take}
use Rattle.std.specs.List.{sum_by}
use Rattle.loc_spec_text.specs.Reading.{all_rings}
use Rattle.loc_rings.proofs.Lone.{lone_rings}
use Rattle.loc_rings.proofs.layers.Layer.of_rings.Given as goal

abbrev pub invariant-loop-n : goal.invariant-loop-n
invariant-loop-n l = (l.layer ≡ lone_rings (take l.n (all_rings l.rings))) × (4 * l.n ≤ sum_by length (take l.n (all_rings l.rings)))
