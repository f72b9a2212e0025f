use Rattle.loc_edges.proofs.ranks.ends_above.Goals as goal

pub returns-then-eq : goal.returns-then-eq
returns-then-eq c = let same = rw (c.hi.ensures.value, c.hi-2.ensures.value) at c.eq.ensures in rw (← same, c.if-eq.true) c.lower.ensures
