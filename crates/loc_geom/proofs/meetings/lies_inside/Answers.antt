use Rattle.std.proofs.Common.{refl, ap, not}
use Rattle.loc_geom.proofs.meetings.lies_inside.Goals as goal
use Rattle.loc_geom.proofs.meetings.lies_inside.Goals.{then-is_same, else-is_same}

pub returns-after-is_same : goal.returns-after-is_same
returns-after-is_same c = elim c.if-is_same.branch [
  | then-is_same w ↦ rw (w.result-is, w.if-is_same.true, ← c.lies_on_it.ensures, c.if-lies_on_it.true, ← c.lo.ensures, ← c.is_same.ensures, w.if-is_same.true) refl
  | else-is_same w ↦ rw (w.result-is, ← c.lies_on_it.ensures, c.if-lies_on_it.true, ← c.lo.ensures, ← w.hi.ensures.value, ← c.is_same.ensures, w.if-is_same.false) (ap not w.is_same-else-is_same.ensures)
]
