use Rattle.loc_geom.proofs.meetings.lower.Goals as goal

pub returns-else-is_before-2 : goal.returns-else-is_before-2
returns-else-is_before-2 c =
    let first = rw (c.lo-first.ensures, c.lo-second.ensures) at c.is_before.ensures in
    let second = rw (c.lo-second.ensures, c.lo-first.ensures) at c.is_before-else-is_before.ensures in rw (← first, c.if-is_before.false, ← second, c.if-is_before-2.false, ← c.hi.ensures.value) c.stands_above-else-is_before-2.ensures
