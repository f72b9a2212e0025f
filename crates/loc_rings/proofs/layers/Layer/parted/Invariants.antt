use Rattle.loc_rings.proofs.Flags.{IsParted}
use Rattle.loc_rings.proofs.layers.Layer.parted.Given as goal

-- the features that came so far, by their flags, and those that are left
abbrev pub invariant-loop-feature : goal.invariant-loop-feature
invariant-loop-feature l = IsParted l.keep l.yielded l.feature-iterator.rest.items l.fn.self l.kept l.others
