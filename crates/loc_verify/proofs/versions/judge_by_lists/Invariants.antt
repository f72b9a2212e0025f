use Rattle.std.proofs.Common.{ℕ, ◌<◌}
use Rattle.loc_spec_index.specs.{Content.table_in, TrueIndex.IsTrueVersion}
use Rattle.loc_sweep.specs.Course.{IsBefore}
use Rattle.loc_verify.proofs.versions.judge_by_lists.Given as goal

abbrev pub invariant-loop-version : goal.invariant-loop-version
invariant-loop-version l = record { before : IsBefore (table_in l.held.content) l.version l.status; right : (j : ℕ) → j < l.version → IsTrueVersion l.held.content j }
