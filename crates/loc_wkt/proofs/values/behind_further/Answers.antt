use Rattle.std.proofs.Common.{rules}
use Rattle.loc_spec_text.specs.Geometry.{symbols}
use Rattle.loc_wkt.proofs.{FrontLemmas.at_none, PassLemmas.none_further, PassLemmas.one_further, PassLemmas.two_further}
use Rattle.loc_wkt.proofs.values.behind_further.Goals as goal

pub returns-in_err-rest-clause-read : goal.returns-in_err-rest-clause-read
returns-in_err-rest-clause-read c = λ x y. at_none _ _ _ c.from_residual.ensures (none_further (symbols c.args.text.now) (search rules) x y)

pub returns-in-Some-clause-read : goal.returns-in-Some-clause-read
returns-in-Some-clause-read c = two_further (symbols c.args.text.now) (symbols c.in_ok-rest.rest.now) (symbols c.in-Some.behind.now) _ _ c.in_ok-rest.ensures.found c.in-Some.ensures.found

pub returns-in-None-clause-read : goal.returns-in-None-clause-read
returns-in-None-clause-read c = one_further (symbols c.args.text.now) (symbols c.in_ok-rest.rest.now) _ c.in_ok-rest.ensures.found c.in-None.ensures.found
