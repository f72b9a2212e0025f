use Rattle.loc_traps.proofs.map.Traps.write.Goals as goal

pub returns-clause-rows : goal.returns-clause-rows
returns-clause-rows c = rw (← c.self.view_is) c.in_ok-put_rows.ensures.rows

pub returns-clause-added : goal.returns-clause-added
returns-clause-added c = rw (← c.self.view_is) c.in_ok-put_rows.ensures.added

pub returns-clause-flags : goal.returns-clause-flags
returns-clause-flags c = c.in_ok-put_rows.ensures.flags

pub returns-clause-stays : goal.returns-clause-stays
returns-clause-stays c = rw (← c.self.view_is) c.in_ok-put_rows.ensures.stays

pub returns-clause-fresh : goal.returns-clause-fresh
returns-clause-fresh c = rw (← c.self.view_is) c.in_ok-put_rows.ensures.fresh

pub returns-clause-count : goal.returns-clause-count
returns-clause-count c = rw (← c.self.view_is) c.in_ok-put_rows.ensures.count
