use Rattle.std.proofs.Common.{ap, sym, subst}
use Rattle.std.specs.Prelude.{Ok}
use Rattle.loc_spec_plane.specs.{declared.Place.TheVariants.Corner, Places.IsListAt}
use Rattle.loc_place.proofs.{FoundPlace.place_is_found, Versions.version_there}
use Rattle.loc_scan.proofs.vec_index.VecIndexLocator.locate.Goals as goal

pub search_list-requires-clause-alive : goal.search_list-requires-clause-alive
search_list-requires-clause-alive g c =
    let t = c.args.views.now in
    subst (λ es. IsListAt t c.args.p es) (sym c.version.ensures) (version_there t c.requires.planar.in_order c.args.self.now.lists c.requires.versions c.args.p c.in-Behind.passed c.in-Behind.ensures.standing)

pub returns-in-OnCorner-clause-found : goal.returns-in-OnCorner-clause-found
returns-in-OnCorner-clause-found g c = ap (λ place. Ok place) (place_is_found c.args.views.now c.requires.planar c.args.p (Corner c.in-OnCorner.corner) c.in-OnCorner.ensures.standing)

pub returns-in-Behind-clause-found : goal.returns-in-Behind-clause-found
returns-in-Behind-clause-found g c = ap (λ place. Ok place) (place_is_found c.args.views.now c.requires.planar c.args.p c.search_list.result c.search_list.ensures.place)
