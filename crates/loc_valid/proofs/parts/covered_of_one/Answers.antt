use Rattle.std.proofs.{Common.sym, Common.subst, lemmas.Result.err_from_is_err_and}
use Rattle.std.specs.Prelude.{IfErr}
use Rattle.loc_valid.specs.Judged.{IsNoMemory}
use Rattle.loc_valid.proofs.parts.covered_of_one.Goals as goal

pub covered_faces-requires-clause-as_many : goal.covered_faces-requires-clause-as_many
covered_faces-requires-clause-as_many c = c.requires.fits.faces.as_many

pub covered_faces-requires-clause-within : goal.covered_faces-requires-clause-within
covered_faces-requires-clause-within c = c.requires.fits.faces.within

pub returns-clause-as_many : goal.returns-clause-as_many
returns-clause-as_many c = c.in_ok-covered.ensures.as_many

pub returns-clause-covered : goal.returns-clause-covered
returns-clause-covered c = c.in_ok-covered.ensures.covered

pub returns-in_err-covered-clause-refused : goal.returns-in_err-covered-clause-refused
returns-in_err-covered-clause-refused c =
    let come = err_from_is_err_and _ c.from_residual-in_err-covered.ensures.1 in
    subst (λ r. IfErr r IsNoMemory) (sym come.1) (subst IsNoMemory (sym come.2) tt)
