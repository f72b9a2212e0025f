use Rattle.std.proofs.Common.{◌+◌, ◌-◌, length, get_or, set, sym, ◌∙◌, subst, arith}
use Rattle.std.proofs.lemmas.Option.{get_or_from_slice_get, slice_get_within}
use Rattle.loc_half.specs.Turns.{arriving}
use Rattle.loc_half.proofs.Linked.{IsLinking, linking_more, linking_start, turn_fits}
use Rattle.loc_half.proofs.nexts.link_corner.Goals as goal

pub loop-edge-init : goal.loop-edge-init
loop-edge-init c =
    let turns = c.args.turns.now in
    let last = sym c.last.ensures.value ∙ (sym c.copied.ensures ∙ c.in-Some.is) in
    linking_start c.args.table.now c.law.ensures.in_order c.args.corner turns c.requires.turns c.args.nexts.now c.in-Some.before c.requires.as_many (omega (arith, slice_get_within c.args.turns.now (length c.args.turns.now - 1) c.in-Some.before last)) (sym (get_or_from_slice_get turns (length turns - 1) c.in-Some.before 0 last))

pub arriving-arrival-requires : goal.arriving-arrival-requires
arriving-arrival-requires c = turn_fits c.args.table.now c.law.ensures.in_order c.args.corner c.args.turns.now c.requires.turns c.loop-edge.edge-index c.loop-edge-test.true

pub loop-edge-preserved : goal.loop-edge-preserved
loop-edge-preserved c =
    let t = c.args.table.now in
    let corner = c.args.corner in
    let turns = c.args.turns.now in
    let old = c.args.nexts.now in
    let i = c.loop-edge.edge-index in
    subst (λ a. IsLinking t corner turns old (set c.loop-edge.nexts a c.leaving.result) (i + 1) (get_or turns i 0)) (sym c.arriving-arrival.ensures)
    (subst (λ b. IsLinking t corner turns old (set c.loop-edge.nexts (arriving t corner (get_or turns i 0)) b) (i + 1) (get_or turns i 0)) (sym c.leaving.ensures)
    (linking_more t c.law.ensures.in_order corner turns c.requires.turns old c.loop-edge.nexts i c.loop-edge.before c.loop-edge-test.true c.loop-edge.invariant))
