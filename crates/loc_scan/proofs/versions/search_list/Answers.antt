use Rattle.std.proofs.Common.{◌≡◌, ◌∙◌, ◌<◌, ◌+◌, ◌-◌, ◌/◌, true, length, get_or, subst, arith}
use Rattle.std.proofs.lemmas.Bool.{and_from, lt-ltb}
use Rattle.loc_spec_plane.specs.{declared.Place.TheVariants.Border, Places.IsPlace, Points.is_below, Tables.edge}
use Rattle.loc_place.proofs.{Cornerless.lies_on_is, Listed.listed_alive, Listed.listed_few, Listed.in_area}
use Rattle.loc_scan.proofs.versions.search_list.Goals as goal

pub side-requires : goal.side-requires
side-requires g c = record { in_range = (listed_alive c.args.views.now c.args.p c.args.list.now c.requires.alive _ (omega arith)).0 }

pub returns-in-On-clause-place : goal.returns-in-On-clause-place
returns-in-On-clause-place g c =
    let k = c.loop-low.low + (c.loop-low.high - c.loop-low.low) / 2 in
    let live = listed_alive c.args.views.now c.args.p c.args.list.now c.requires.alive k (omega arith) in
    let place : IsPlace c.args.views.now c.args.p (Border (get_or c.args.list.now k 0)) = (c.requires.cornerless, and_from _ _ (lt-ltb _ _ live.0) (lies_on_is c.args.views.now c.args.p c.requires.cornerless c.requires.planar.in_order _ live.0 ∙ and_from _ _ c.in-On.ensures.value live.1)) in place

pub returns-in-On-clause-within : goal.returns-in-On-clause-within
returns-in-On-clause-within g c = let few = listed_few c.args.views.now c.args.p c.args.list.now c.requires.alive in omega arith

pub returns-clause-place : goal.returns-clause-place
returns-clause-place g c =
    let t = c.args.views.now in
    let es = c.args.list.now in
    let both : c.loop-low.high ≡ c.loop-low.low = omega arith in
    in_area t c.args.p es c.requires.alive c.requires.planar c.requires.cornerless c.loop-low.low (omega arith) c.loop-low.invariant.above
    (subst (λ k. k < length es → is_below (edge t (get_or es k 0)) c.args.p ≡ true) both c.loop-low.invariant.below)
    c.last_of.result c.last_of.ensures.none c.last_of.ensures.some

pub returns-clause-within : goal.returns-clause-within
returns-clause-within g c = let few = listed_few c.args.views.now c.args.p c.args.list.now c.requires.alive in omega arith
