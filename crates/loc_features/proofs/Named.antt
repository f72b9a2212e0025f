-- What a query answers to a point names the features that touch it and that cover it.
use Rattle.std.proofs.Common.{ℕ, Option, List, refl}
use Rattle.loc_spec_plane.specs.declared.Place.{Place}
use Rattle.loc_spec_plane.specs.declared.Place.TheVariants.{Corner, Border, Area}
use Rattle.loc_spec_plane.specs.Rings.{touches, covers}
use Rattle.loc_faces.specs.Subdivision.{shown_at}
use Rattle.loc_maps.specs.Located.{table_in}
use Rattle.loc_place.specs.Found.{place_at}
use Rattle.loc_query.specs.Answered.{answer_at, ids_where, located}
use Rattle.loc_features.specs.Queries.{NamesFeatures, QueryLaw}

by_place : (shown : Option ℕ → Option ℕ) (place : Place) (on covering : List (List ℕ)) → NamesFeatures on covering (answer_at shown place on covering)
by_place shown (Corner n) on covering = (refl, refl)
by_place shown (Border n) on covering = (refl, refl)
by_place shown (Area floor) on covering = refl

pub named : QueryLaw
unfolding located
named faces layer p = by_place (shown_at faces (table_in layer)) (place_at (table_in layer) p) (ids_where (λ rings. touches rings p) layer) (ids_where (λ rings. covers rings p) layer)
