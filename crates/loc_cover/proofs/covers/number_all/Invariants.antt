use Rattle.std.proofs.Common.{◌≢◌, ℕ, ◌<◌, None, get_or}
use Rattle.loc_cover.specs.{Numbered.IsNumbered, Stores.IsStore}
use Rattle.loc_cover.proofs.covers.number_all.Given as goal

-- the lists above the edges before are known
abbrev pub invariant-loop-edge : goal.invariant-loop-edge
invariant-loop-edge l = record {
  stands : IsStore l.store;
  numbered : IsNumbered l.table l.store.rows l.numbers.items;
  known : (e : ℕ) → e < l.edge → get_or l.numbers.items e None ≢ None;
}
