use Rattle.std.proofs.Common.{arith}
use Rattle.loc_cover.proofs.Descending.{known_under_last, last_within, path_shorter}
use Rattle.loc_cover.proofs.covers.number_down.Goals as goal

pub bounds-below-next : goal.bounds-below-next
bounds-below-next c = omega (arith, c.requires.below.as_many, last_within _ _ c.loop-next.invariant.way c.in-Some.ensures.items)

pub number_edge-requires-clause-in_range : goal.number_edge-requires-clause-in_range
number_edge-requires-clause-in_range c = last_within _ _ c.loop-next.invariant.way c.in-Some.ensures.items

pub number_edge-requires-clause-just_below : goal.number_edge-requires-clause-just_below
number_edge-requires-clause-just_below c = c.requires.below.are c.in-Some.next (last_within _ _ c.loop-next.invariant.way c.in-Some.ensures.items)

pub number_edge-requires-clause-known : goal.number_edge-requires-clause-known
number_edge-requires-clause-known c = known_under_last _ _ c.loop-next.invariant.way c.in-Some.ensures.items

pub loop-next-preserved : goal.loop-next-preserved
loop-next-preserved c = record {
  stands = c.in_ok-number_edge.ensures.stands;
  numbered = c.in_ok-number_edge.ensures.numbered;
  kept = λ e known. c.in_ok-number_edge.ensures.kept e (c.loop-next.invariant.kept e known);
  way = path_shorter _ _ c.loop-next.invariant.way c.in-Some.ensures.items c.number_edge.new.numbers.items c.in_ok-number_edge.ensures.known;
}
