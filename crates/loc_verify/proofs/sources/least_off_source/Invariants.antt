use Rattle.std.proofs.Common.{ℕ, ◌<◌}
use Rattle.std.specs.Prelude.{IsTrue}
use Rattle.loc_spec_plane.specs.Tables.{is_on_source}
use Rattle.loc_verify.proofs.sources.least_off_source.Given as goal

-- the edges before lie on their sources
abbrev pub invariant-loop-edge : goal.invariant-loop-edge
invariant-loop-edge l = (e : ℕ) → e < l.edge → IsTrue (is_on_source l.table e)
