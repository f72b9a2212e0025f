use Rattle.std.proofs.Common.{ℕ, ◌<◌, take}
use Rattle.std.specs.Prelude.{All}
use Rattle.loc_dissolve.proofs.Keepers.{GainsTo, does_change}
use Rattle.loc_dissolve.proofs.kept.put_keepers.Given as goal

-- those of the groups before that keep the edge have it behind them
abbrev pub invariant-loop-group : goal.invariant-loop-group
invariant-loop-group l = record {
  gained : GainsTo (does_change l.crossing l.above) l.edge (take l.group-index l.group-items) l.fn.kept.items l.kept.items;
  within : (count : ℕ) → All (λ (pair : ℕ × ℕ). pair.0 < count) l.fn.kept.items → All (λ g. g < count) l.group-items → All (λ (pair : ℕ × ℕ). pair.0 < count) l.kept.items;
}
