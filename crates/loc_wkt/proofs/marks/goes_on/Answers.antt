use Rattle.std.proofs.Common.{rules}
use Rattle.loc_spec_text.specs.Geometry.{symbols}
use Rattle.loc_wkt.proofs.FrontLemmas.{at_none, close_ends, comma_goes_on, no_mark_breaks, other_mark_breaks}
use Rattle.loc_wkt.proofs.marks.goes_on.Goals as goal

pub returns-in_err-mark-clause-found : goal.returns-in_err-mark-clause-found
returns-in_err-mark-clause-found c = at_none _ _ _ c.from_residual.ensures (no_mark_breaks (symbols c.args.text.now) (search rules))

pub returns-in-44-clause-found : goal.returns-in-44-clause-found
returns-in-44-clause-found c = comma_goes_on (symbols c.args.text.now) (symbols c.in_ok-mark.rest.now) c.in_ok-mark.mark c.in_ok-mark.ensures.found (search rules)

pub returns-in-41-clause-found : goal.returns-in-41-clause-found
returns-in-41-clause-found c = close_ends (symbols c.args.text.now) (symbols c.in_ok-mark.rest.now) c.in_ok-mark.mark c.in_ok-mark.ensures.found (search rules)

pub returns-in_default-clause-found : goal.returns-in_default-clause-found
returns-in_default-clause-found c = other_mark_breaks (symbols c.args.text.now) (symbols c.in_ok-mark.rest.now) c.in_ok-mark.mark c.in_ok-mark.ensures.found (search rules) (search rules)
