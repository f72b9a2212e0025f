use Rattle.std.proofs.Common.{◌<◌, [], ◌∷◌, ◌++◌, length, sym, ◌∙◌, ap, subst}
use Rattle.loc_spec_plane.specs.{HalfEdges.half_edge_count, HalfEdges.way_to, Tables.corner}
use Rattle.loc_half.specs.HalfEdgeLists.{next_in}
use Rattle.loc_dissolve.proofs.Rings.{IsWalkedTo, walked_all, walked_first, walked_more, way_shorter}
use Rattle.loc_dissolve.proofs.polygons.ring_from.Goals as goal

pub round-smaller : goal.round-smaller
round-smaller c = subst (λ h. length (way_to (next_in c.args.half.now) c.args.leader (half_edge_count c.args.table.now) h) < length (way_to (next_in c.args.half.now) c.args.leader (half_edge_count c.args.table.now) c.round.h)) (sym c.next-h-in-round.ensures)
    (way_shorter c.args.table.now c.law.ensures.in_order c.args.half.now c.requires.half c.args.leader c.requires.in_range c.round.corners.items c.round.h c.round.invariant c.round-test.true)

pub returns : goal.returns
returns c = λ face. c.of.ensures ∙ walked_all c.args.table.now c.law.ensures.in_order c.args.half.now c.requires.half c.args.leader c.requires.in_range c.round.corners.items c.round.h c.round.invariant c.round-test.false face

pub round-init : goal.round-init
round-init c =
    let t = c.args.table.now in
    let half = c.args.half.now in
    let leader = c.args.leader in
    subst (λ h. IsWalkedTo t half leader c.in_ok-corners.corners.items h) (sym c.next-h.ensures)
    (subst (λ ps. IsWalkedTo t half leader ps (next_in half leader)) (sym (c.in_ok-corners.ensures.items ∙ ap (λ p. p ∷ []) (c.corner.ensures ∙ ap (corner t) (c.origin.ensures ∙ c.requires.half.origins leader c.requires.in_range))))
    (walked_first t c.law.ensures.in_order half c.requires.half leader c.requires.in_range))

pub round-preserved : goal.round-preserved
round-preserved c =
    let t = c.args.table.now in
    let half = c.args.half.now in
    let leader = c.args.leader in
    let h = c.round.h in
    subst (λ g. IsWalkedTo t half leader c.push.new.self.items g) (sym c.next-h-in-round.ensures)
    (subst (λ ps. IsWalkedTo t half leader ps (next_in half h)) (sym (c.in_ok-push.ensures.items ∙ ap (λ p. c.round.corners.items ++ p ∷ []) (c.corner-in-round.ensures ∙ ap (corner t) (c.origin-in-round.ensures ∙ c.requires.half.origins h c.round.invariant.within))))
    (walked_more t c.law.ensures.in_order half c.requires.half leader c.requires.in_range c.round.corners.items h c.round.invariant c.round-test.true))
