use Rattle.std.proofs.Common.{◌≡◌, ℕ, ◌<◌, ◌≤◌, get_or}
use Rattle.std.specs.Prelude.{◌⊎◌}
use Rattle.loc_valid.proofs.hits.misplaced.Given as goal

-- the members before are not past the exterior, or the ring
abbrev pub invariant-loop-at : goal.invariant-loop-at
invariant-loop-at l = (i : ℕ) → i < l.at → (get_or l.list i 0 ≤ l.exterior) ⊎ (get_or l.list i 0 ≡ l.ring)
