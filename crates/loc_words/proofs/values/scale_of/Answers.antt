use Rattle.std.proofs.{Common.refl, Common.sym, lemmas.Bool.le-leb}
use Rattle.loc_words.proofs.values.scale_of.Goals as goal

pub returns-in-Some-clause-value : goal.returns-in-Some-clause-value
returns-in-Some-clause-value c = rw (sym c.in-Some.ensures) (rw (le-leb c.in-Some.scale 15 c.if-scale.true) refl)

pub returns-in-Some-clause-bound : goal.returns-in-Some-clause-bound
returns-in-Some-clause-bound c = c.if-scale.true
