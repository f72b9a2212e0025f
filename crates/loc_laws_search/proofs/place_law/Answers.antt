use Rattle.loc_laws_search.proofs.FindsPlace.{search_finds_place}
use Rattle.loc_laws_search.proofs.place_law.Goals as goal

pub returns : goal.returns
returns c = search_finds_place
