use Rattle.std.proofs.Common.{◌≡◌, ◌+◌, ◌<◌, length, sym, ◌∙◌, subst, arith}
use Rattle.loc_spec_plane.specs.Covers.{cover_above}
use Rattle.loc_laws_valid.specs.Laws.{ring_of}
use Rattle.loc_valid.specs.Hits.{IsLeastOf, misplaced_in}
use Rattle.loc_valid.proofs.Firsts.{misplaced_here, list_rises, ring_fits, ring_is, some_mark}
use Rattle.loc_valid.proofs.{Minima.edge_more, RingHomes.as_many_homes}
use Rattle.loc_valid.proofs.passes.first_misplaced.Goals as goal

pub ring_at-ring-requires-clause-some : goal.ring_at-ring-requires-clause-some
ring_at-ring-requires-clause-some c =
    let polygons = c.args.rings.now in
    let t = c.args.table.now in
    let e = c.loop-edge.edge in
    let le : e < length t.ends = omega (arith, c.loop-edge-test.true, c.edge_count-edge-end.ensures.value) in
    some_mark polygons t c.requires.one c.requires.features e le

pub misplaced-requires-clause-in_range : goal.misplaced-requires-clause-in_range
misplaced-requires-clause-in_range c =
    let polygons = c.args.rings.now in
    let t = c.args.table.now in
    let e = c.loop-edge.edge in
    let le : e < length t.ends = omega (arith, c.loop-edge-test.true, c.edge_count-edge-end.ensures.value) in
    let ring : c.ring_at-ring.result ≡ ring_of polygons t e = ring_is polygons t c.requires.one c.requires.features e c.ring_at-ring.result le c.ring_at-ring.ensures in
    omega (arith, ring, ring_fits polygons t c.requires.one c.requires.features e le, as_many_homes polygons c.args.homes.now c.requires.homed)

pub misplaced-requires-clause-rises : goal.misplaced-requires-clause-rises
misplaced-requires-clause-rises c =
    let polygons = c.args.rings.now in
    let t = c.args.table.now in
    let e = c.loop-edge.edge in
    let le : e < length t.ends = omega (arith, c.loop-edge-test.true, c.edge_count-edge-end.ensures.value) in
    let list : c.above.result.now ≡ cover_above t e = c.above.ensures ∙ c.requires.is_true.above e le in
    list_rises polygons t c.requires.one c.requires.features e c.above.result.now list

pub loop-edge-preserved : goal.loop-edge-preserved
loop-edge-preserved c =
    let polygons = c.args.rings.now in
    let t = c.args.table.now in
    let e = c.loop-edge.edge in
    let le : e < length t.ends = omega (arith, c.loop-edge-test.true, c.edge_count-edge-end.ensures.value) in
    let ring : c.ring_at-ring.result ≡ ring_of polygons t e = ring_is polygons t c.requires.one c.requires.features e c.ring_at-ring.result le c.ring_at-ring.ensures in
    let list : c.above.result.now ≡ cover_above t e = c.above.ensures ∙ c.requires.is_true.above e le in
    subst (IsLeastOf (λ d. misplaced_in c.args.fault polygons (ring_of polygons t d) (cover_above t d)) (e + 1)) (sym c.lesser-least.ensures)
    (edge_more (λ d. misplaced_in c.args.fault polygons (ring_of polygons t d) (cover_above t d)) e c.loop-edge.least c.misplaced.result c.loop-edge.invariant (misplaced_here polygons t c.requires.one c.requires.features c.args.fault e c.ring_at-ring.result c.above.result.now c.misplaced.result ring list c.misplaced.ensures))

pub returns : goal.returns
returns c =
    let same : c.loop-edge.edge ≡ length c.args.table.now.ends = omega (arith, c.loop-edge-test.false, c.edge_count-edge-end.ensures.value, c.loop-edge.auto.edge-end) in
    subst (λ n. IsLeastOf (λ d. misplaced_in c.args.fault c.args.rings.now (ring_of c.args.rings.now c.args.table.now d) (cover_above c.args.table.now d)) n c.loop-edge.least) same c.loop-edge.invariant
