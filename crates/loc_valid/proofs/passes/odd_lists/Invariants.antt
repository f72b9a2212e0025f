use Rattle.loc_valid.specs.Hits.{AreOddLists}
use Rattle.loc_valid.proofs.passes.odd_lists.Given as goal

-- the lists before are told
abbrev pub invariant-loop-n : goal.invariant-loop-n
invariant-loop-n l = AreOddLists l.homes l.legend.lists l.n l.odd.items
