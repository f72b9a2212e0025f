use Rattle.std.proofs.Common.{ℕ, ◌≡◌, take, Some}
use Rattle.loc_spec_plane.specs.{Tables.lo_of, Covers.cover_above}
use Rattle.loc_cover.specs.Legends.{list_above}
use Rattle.loc_verify.proofs.Wrong.{IsBefore, IsLeastAmong}
use Rattle.loc_verify.proofs.covers.least_wrong_at.Given as goal

abbrev pub invariant-loop-edge : goal.invariant-loop-edge
invariant-loop-edge l = record {
  below : IsBefore l.list l.edge-index l.below;
  covers : (d : ℕ) → l.below ≡ Some d → lo_of l.table d ≡ l.corner → l.covers.items ≡ cover_above l.table d;
  least : IsLeastAmong l.table l.corner (λ e. list_above l.legend e ≡ cover_above l.table e) (take l.edge-index l.list) l.least;
}
