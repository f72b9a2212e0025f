use Rattle.std.proofs.{Common.length, Common.ap, Common.arith, lemmas.Bool.and_parts, lemmas.Bool.ltb-true}
use Rattle.std.specs.Prelude.{Ok, Some, None}
use Rattle.loc_place.proofs.{FoundPlace.place_is_found, SearchBounds.both_within, SearchBounds.within_most}
use Rattle.loc_spec_plane.specs.{Points.Point, Tables.Table, Places.IsPlace, declared.Place.Place}
use Rattle.loc_spec_plane.specs.declared.Place.TheVariants.{Corner, Border, Area}
use Rattle.loc_place.specs.{Answers.IsInRange, Steps.alive_count}
use Rattle.loc_place.proofs.ListCounts.{alive_few}
use Rattle.loc_treeidx.proofs.tree_index.TreeIndexLocator.locate.Goals as goal

-- a place is of a corner or an edge of the table
in_range : (t : Table) (p : Point) (place : Place) → IsPlace t p place → IsInRange t place
in_range t p (Corner n) h = ltb-true _ _ (and_parts _ _ h).0
in_range t p (Border e) h = ltb-true _ _ (and_parts _ _ h.1).0
in_range t p (Area None) h = tt
in_range t p (Area (Some e)) h = ltb-true _ _ (and_parts _ _ (and_parts _ _ h.2.0).0).0

pub search_behind-requires-clause-behind : goal.search_behind-requires-clause-behind
search_behind-requires-clause-behind g c = c.in-Behind.ensures.standing

pub returns-in-OnCorner-clause-place : goal.returns-in-OnCorner-clause-place
returns-in-OnCorner-clause-place g c _ = c.in-OnCorner.ensures.standing

pub returns-in-Behind-clause-in_range : goal.returns-in-Behind-clause-in_range
returns-in-Behind-clause-in_range g c = in_range c.args.views.now c.args.p c.search_behind.result c.search_behind.ensures.place

pub returns-in-OnCorner-clause-found : goal.returns-in-OnCorner-clause-found
returns-in-OnCorner-clause-found g c = ap (λ place. Ok place) (place_is_found c.args.views.now c.requires.planar c.args.p (Corner c.in-OnCorner.corner) c.in-OnCorner.ensures.standing)

pub returns-in-OnCorner-clause-within : goal.returns-in-OnCorner-clause-within
returns-in-OnCorner-clause-within g c =
    let t = c.args.views.now in
    within_most t 0 c.args.steps.now c.search_corners.new.steps (omega arith) c.search_corners.ensures.counted (omega (arith, c.search_corners.ensures.halving))

pub returns-in-Behind-clause-found : goal.returns-in-Behind-clause-found
returns-in-Behind-clause-found g c = ap (λ place. Ok place) (place_is_found c.args.views.now c.requires.planar c.args.p c.search_behind.result c.search_behind.ensures.place)

pub returns-in-Behind-clause-few : goal.returns-in-Behind-clause-few
returns-in-Behind-clause-few g c =
    let t = c.args.views.now in
    both_within (length t.corners) (alive_count t c.args.p) c.args.steps.now c.search_corners.new.steps c.search_behind.new.steps c.search_corners.ensures.counted c.search_behind.ensures.counted c.search_corners.ensures.halving c.search_behind.ensures.few

pub returns-in-Behind-clause-within : goal.returns-in-Behind-clause-within
returns-in-Behind-clause-within g c =
    let t = c.args.views.now in
    let first = c.search_corners.ensures.counted in
    let second = c.search_behind.ensures.counted in
    within_most t (alive_count t c.args.p) c.args.steps.now c.search_behind.new.steps (alive_few t c.args.p) (omega (arith, first, second))
    (both_within (length t.corners) (alive_count t c.args.p) c.args.steps.now c.search_corners.new.steps c.search_behind.new.steps first second c.search_corners.ensures.halving c.search_behind.ensures.few)
