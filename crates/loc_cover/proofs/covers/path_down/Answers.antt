use Rattle.std.proofs.Common.{◌++◌, ◌∷◌, [], ◌∙◌, ap, subst, arith}
use Rattle.loc_spec_plane.specs.Places.{IsJustBelow}
use Rattle.loc_cover.proofs.Descending.{descent_end, descent_more, descent_start}
use Rattle.loc_cover.proofs.Ranked.{below_ranked, below_within}
use Rattle.loc_cover.proofs.covers.path_down.Goals as goal

pub loop-next-init : goal.loop-next-init
loop-next-init c = descent_start c.args.table.now c.args.below.now c.args.edge c.push.new.self.items c.requires.in_range (c.in_ok-push.ensures.items ∙ ap (λ xs. xs ++ c.args.edge ∷ []) c.clear.ensures.items)

pub unknown_below-requires-clause-in_range : goal.unknown_below-requires-clause-in_range
unknown_below-requires-clause-in_range c = omega (arith, c.loop-next.invariant.last_within, c.requires.below.as_many)

pub loop-next-smaller : goal.loop-next-smaller
loop-next-smaller c = below_ranked c.args.table.now c.law.ensures.in_order c.requires.even.apart c.loop-next.last c.in-Some.next c.loop-next.invariant.last_within (subst (IsJustBelow c.args.table.now c.loop-next.last) c.in-Some.ensures.some (c.requires.below.are c.loop-next.last c.loop-next.invariant.last_within))

pub loop-next-preserved : goal.loop-next-preserved
loop-next-preserved c = descent_more c.args.table.now c.args.below.now c.args.edge c.loop-next.last c.in-Some.next c.loop-next.path.items c.push-in-Some.new.self.items c.loop-next.invariant c.in-Some.ensures.some
    (below_within c.args.table.now c.law.ensures.in_order c.requires.even.apart c.loop-next.last c.in-Some.next c.loop-next.invariant.last_within (subst (IsJustBelow c.args.table.now c.loop-next.last) c.in-Some.ensures.some (c.requires.below.are c.loop-next.last c.loop-next.invariant.last_within)))
    c.in_ok-push-2.ensures.items

pub returns : goal.returns
returns c = descent_end c.args.table.now c.args.below.now c.args.numbers.now c.args.edge c.loop-next.last c.loop-next.path.items c.loop-next.invariant (c.unknown_below.ensures.none c.in_default.is)
