use Rattle.std.proofs.Common.{◌≡◌, ◌-◌, false}
use Rattle.loc_spec_plane.specs.Tables.{hi_of}
use Rattle.loc_laws_traps.specs.Sets.{IsCalmSet, with_edge}
use Rattle.loc_traps.specs.Meaning.{row_of, among}
use Rattle.loc_traps.proofs.Walking.{Walking, left_number}
use Rattle.loc_traps.proofs.walk.Walk.follow.Given as goal

-- what the walk has collected
abbrev pub invariant-along : goal.invariant-along
invariant-along l =
    (set : IsCalmSet l.ranks (with_edge (among l.traps.added) l.edge)) (fresh : among l.traps.added l.edge ≡ false)
    → Walking l.ranks l.traps.added l.edge set fresh l.traps.rows l.traps.is_live l.self.last l.self.overs.items l.self.unders.items l.self.cuts.items

-- the lefts rise up to the upper end of the edge
abbrev pub decreases-along : goal.decreases-along
decreases-along l = hi_of l.ranks l.edge - left_number (row_of l.traps.rows l.self.last).left
