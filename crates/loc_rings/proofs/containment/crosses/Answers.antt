use Rattle.loc_rings.proofs.Crossings.{when_above, when_below, when_on}
use Rattle.loc_rings.proofs.containment.crosses.Goals as goal

pub returns-in-Above : goal.returns-in-Above
returns-in-Above c = when_above c.args.segment c.args.p c.climbs_past-rises.result (cc (c.climbs_past-rises.ensures, c.lo.ensures, c.hi.ensures.value)) c.in-Above.ensures

pub returns-in-Below : goal.returns-in-Below
returns-in-Below c = when_below c.args.segment c.args.p c.climbs_past-falls.result (cc (c.climbs_past-falls.ensures, c.lo-2.ensures, c.hi-2.ensures.value)) c.in-Below.ensures

pub returns-in-On : goal.returns-in-On
returns-in-On c = when_on c.args.segment c.args.p c.in-On.ensures
