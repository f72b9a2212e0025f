use Rattle.std.proofs.Common.{◌≡◌, [], ◌∷◌, slice_range}
use Rattle.loc_spec_text.specs.Reading.{all_rings}
use Rattle.loc_rings.proofs.alone.copied.Given as goal

abbrev pub invariant-loop-n : goal.invariant-loop-n
invariant-loop-n l = l.made ≡ slice_range (all_rings l.rings) l.first l.n ∷ []
