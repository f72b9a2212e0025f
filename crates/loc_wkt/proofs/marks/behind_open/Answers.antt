use Rattle.std.proofs.Common.{◌∙◌, ap, Some, rules}
use Rattle.loc_spec_text.specs.Geometry.{symbols}
use Rattle.loc_wkt.proofs.FrontLemmas.{at_none, open_first, no_open, other_first}
use Rattle.loc_wkt.proofs.marks.behind_open.Goals as goal

pub returns-in_err-mark-clause-found : goal.returns-in_err-mark-clause-found
returns-in_err-mark-clause-found c = at_none _ _ _ c.from_residual.ensures (no_open (symbols c.args.text.now) (search rules))

pub returns-then-mark-eq40-clause-found : goal.returns-then-mark-eq40-clause-found
returns-then-mark-eq40-clause-found c = open_first (symbols c.args.text.now) (symbols c.in_ok-mark.rest.now) (c.in_ok-mark.ensures.found ∙ ap (λ m. Some (m, symbols c.in_ok-mark.rest.now)) c.if-mark-eq40.true)

pub returns-else-mark-eq40-clause-found : goal.returns-else-mark-eq40-clause-found
returns-else-mark-eq40-clause-found c = other_first (symbols c.args.text.now) (symbols c.in_ok-mark.rest.now) c.in_ok-mark.mark c.in_ok-mark.ensures.found c.if-mark-eq40.false
