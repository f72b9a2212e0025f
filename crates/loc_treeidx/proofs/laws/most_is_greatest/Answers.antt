use Rattle.std.proofs.Common.{length}
use Rattle.loc_place.specs.Steps.{search_bound}
use Rattle.loc_place.proofs.SearchBounds.{greatest_is, most_within}
use Rattle.loc_treeidx.proofs.laws.most_is_greatest.Goals as goal

pub returns-clause-most : goal.returns-clause-most
returns-clause-most c = most_within c.args.table.now

pub returns-clause-greatest : goal.returns-clause-greatest
returns-clause-greatest c = λ number power. greatest_is (search_bound (length c.args.table.now.corners) (length c.args.table.now.ends)) number power
