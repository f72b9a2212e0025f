use Rattle.std.proofs.Common.{◌++◌, ◌∷◌, [], List, get_or, map, take, sym, ◌∙◌, ap, append_assoc}
use Rattle.std.proofs.lemmas.List.{map-append, take_all, take_more}
use Rattle.loc_spec_plane.specs.Rings.{Ring}
use Rattle.loc_half.specs.HalfEdgeLists.{next_in}
use Rattle.loc_spec_groups.specs.Groups.{ring_from}
use Rattle.loc_dissolve.proofs.polygons.put_rings.Goals as goal

pub loop-leader-preserved : goal.loop-leader-preserved
loop-leader-preserved c = λ face.
    (let ring = ring_from c.args.table.now (next_in c.args.half.now) face in
    let leaders = c.args.leaders.now in
    let i = c.loop-leader.leader-index in
    c.in_ok-push.ensures.items ∙ (ap (λ (r : Ring). c.loop-leader.rings.items ++ r ∷ []) (c.in_ok-ring_from.ensures face) ∙ (ap (λ (rs : List Ring). rs ++ ring (get_or leaders i 0) ∷ []) (c.loop-leader.invariant face)
    ∙ (append_assoc c.args.rings.now.items (map ring (take i leaders)) (ring (get_or leaders i 0) ∷ []) ∙ ap (λ (rs : List Ring). c.args.rings.now.items ++ rs) (sym (ap (map ring) (take_more leaders i 0 c.loop-leader-test.true) ∙ map-append ring (take i leaders) (get_or leaders i 0 ∷ [])))))))

pub returns : goal.returns
returns c = λ face. c.loop-leader.invariant face ∙ ap (λ ls. c.args.rings.now.items ++ map (ring_from c.args.table.now (next_in c.args.half.now) face) ls) (take_all c.loop-leader.leader-index c.args.leaders.now c.loop-leader-test.false)
