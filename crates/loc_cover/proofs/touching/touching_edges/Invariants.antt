use Rattle.std.proofs.Common.{◌≡◌, ℕ, ◌<◌, [], length, get_or}
use Rattle.std.specs.Prelude.{nat_lt}
use Rattle.loc_spec_plane.specs.{Lists.IsRisingListOf, Tables.has}
use Rattle.loc_cover.proofs.touching.touching_edges.Given as goal

-- the edges before have their rows
abbrev pub invariant-loop-edge : goal.invariant-loop-edge
invariant-loop-edge l = record {
  as_many : length l.rows ≡ l.edge;
  each : (e : ℕ) → e < l.edge → IsRisingListOf nat_lt (λ f. has l.table f e) (get_or l.rows e []);
}
