use Rattle.std.proofs.Common.{◌≡◌, ◌++◌, ◌-◌, ◌<◌, [], length, get_or, map, ◌∙◌, ap, arith}
use Rattle.loc_spec_plane.specs.Lists.{numbers}
use Rattle.loc_valid.proofs.{RingCounts.ring_count, RingHomes.homes_all, RingHomes.homes_more}
use Rattle.loc_valid.proofs.homes.homes_of.Goals as goal

pub loop-n-preserved : goal.loop-n-preserved
loop-n-preserved c =
    let polygons = c.args.rings.now in
    let n = c.loop-n.n in
    let lt : n < length polygons = omega (arith, c.loop-n-test.true, c.polygons-n-end.ensures.value) in
    let many : c.polygon-first.result.1 - c.polygon-first.result.0 ≡ length (get_or polygons n []) = omega (arith, c.polygon-first.ensures.first, c.polygon-first.ensures.past, ring_count polygons n lt) in
    homes_more polygons n c.loop-n.homes.items c.put_home.new.homes.items lt c.loop-n.invariant
    (c.in_ok-put_home.ensures ∙ ap (λ k. c.loop-n.homes.items ++ map (λ _. n) (numbers k)) many)

pub returns : goal.returns
returns c = homes_all c.args.rings.now c.loop-n.n c.loop-n.homes.items (omega (arith, c.loop-n-test.false, c.polygons-n-end.ensures.value)) c.loop-n.invariant
