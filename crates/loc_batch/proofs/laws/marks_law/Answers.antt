use Rattle.loc_spec_plane.specs.Places.{IsPlace}
use Rattle.loc_batch.proofs.Marks.{by_marks, place_of, writes_marks}
use Rattle.loc_batch.proofs.laws.marks_law.Goals as goal

pub returns-clause-answers : goal.returns-clause-answers
returns-clause-answers g c =
    let index = c.args.index.now in
    let t = c.args.table.now in
    by_marks t c.args.legend.now c.law-2.ensures c.requires.fits c.requires.is_true c.law.ensures.in_order c.requires.all_ends c.requires.all_even (g.met.I.Locator.stands_apart index t c.requires.stands)
    (g.I.Locator.finds index t) (λ p. place_of (IsPlace t p) (g.I.Locator.finds index t p) (g.met.I.Locator.stands_finds index t p c.requires.stands))

pub returns-clause-writes : goal.returns-clause-writes
returns-clause-writes g c = writes_marks (g.I.Locator.finds c.args.index.now c.args.table.now) c.args.table.now c.args.legend.now (returns-clause-answers g c)
