use Rattle.loc_cover.proofs.covers.unknown_below.Goals as goal

pub returns-in-None-clause-none : goal.returns-in-None-clause-none
returns-in-None-clause-none c is = rw is tt
