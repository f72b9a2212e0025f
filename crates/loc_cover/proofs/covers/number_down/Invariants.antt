use Rattle.std.proofs.Common.{length}
use Rattle.loc_cover.specs.{Numbered.IsNumbered, Numbered.IsPath, Numbered.KeepsKnown, Stores.IsStore}
use Rattle.loc_cover.proofs.covers.number_down.Given as goal

-- what is left of the path is one
abbrev pub invariant-loop-next : goal.invariant-loop-next
invariant-loop-next l = record {
  stands : IsStore l.store;
  numbered : IsNumbered l.table l.store.rows l.numbers.items;
  kept : KeepsKnown l.fn.numbers.items l.numbers.items;
  way : IsPath l.table l.below l.numbers.items l.edge l.room.path.items;
}

abbrev pub decreases-loop-next : goal.decreases-loop-next
decreases-loop-next l = length l.room.path.items
