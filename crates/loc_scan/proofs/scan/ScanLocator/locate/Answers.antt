use Rattle.std.proofs.Common.{ap}
use Rattle.std.specs.Prelude.{Ok}
use Rattle.loc_spec_plane.specs.declared.Place.TheVariants.{Corner}
use Rattle.loc_place.proofs.FoundPlace.{place_is_found}
use Rattle.loc_scan.proofs.scan.ScanLocator.locate.Goals as goal

pub returns-in-OnCorner-clause-found : goal.returns-in-OnCorner-clause-found
returns-in-OnCorner-clause-found g c = ap (λ place. Ok place) (place_is_found c.args.views.now c.requires c.args.p (Corner c.in-OnCorner.corner) c.in-OnCorner.ensures.standing)

pub returns-in-Behind-clause-found : goal.returns-in-Behind-clause-found
returns-in-Behind-clause-found g c = ap (λ place. Ok place) (place_is_found c.args.views.now c.requires c.args.p c.among_edges.result c.among_edges.ensures.place)
