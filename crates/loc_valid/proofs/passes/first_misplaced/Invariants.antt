use Rattle.loc_spec_plane.specs.Covers.{cover_above}
use Rattle.loc_laws_valid.specs.Laws.{ring_of}
use Rattle.loc_valid.specs.Hits.{IsLeastOf, misplaced_in}
use Rattle.loc_valid.proofs.passes.first_misplaced.Given as goal

-- it is the least pair of the edges before
abbrev pub invariant-loop-edge : goal.invariant-loop-edge
invariant-loop-edge l = IsLeastOf (λ e. misplaced_in l.fault l.rings (ring_of l.rings l.table e) (cover_above l.table e)) l.edge l.least
