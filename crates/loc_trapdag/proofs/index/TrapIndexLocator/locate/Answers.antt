use Rattle.std.proofs.Common.{ap}
use Rattle.std.specs.Prelude.{Ok}
use Rattle.loc_place.proofs.FoundPlace.{place_is_found}
use Rattle.loc_trapdag.proofs.index.TrapIndexLocator.locate.Goals as goal

pub returns-clause-found : goal.returns-clause-found
returns-clause-found bounds c = ap (λ place. Ok place) (place_is_found c.args.views.now c.requires.planar c.args.p c.place.result c.place.ensures.place)
