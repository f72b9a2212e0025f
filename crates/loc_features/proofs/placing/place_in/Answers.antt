use Rattle.std.proofs.Common.{◌+◌, ◌≤◌, subst, arith}
use Rattle.loc_place.specs.Steps.{most_steps}
use Rattle.loc_features.proofs.Placed.{few_steps}
use Rattle.loc_features.proofs.placing.place_in.Goals as goal

pub swept_stands-requires-clause-apart : goal.swept_stands-requires-clause-apart
swept_stands-requires-clause-apart g c = c.requires.part.1.map.apart

pub swept_stands-requires-clause-swept : goal.swept_stands-requires-clause-swept
swept_stands-requires-clause-swept g c = c.requires.part.1.swept

pub returns-clause-within : goal.returns-clause-within
returns-clause-within g c =
    let table = c.args.part.now.plane.table in
    let within = subst (λ t. c.locate.new.steps ≤ c.args.steps.now + most_steps t) c.views.ensures c.locate.ensures.within in
    omega (arith, within, few_steps table (most_steps table) c.law.ensures.small c.most_is_greatest.ensures.most)
