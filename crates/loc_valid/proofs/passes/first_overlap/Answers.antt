use Rattle.std.proofs.Common.{◌≡◌, ℕ, ◌+◌, ◌<◌, [], length, get_or, sym, ◌∙◌, ap, subst, arith}
use Rattle.std.proofs.{lemmas.List.get_or_default, lemmas.Option.get_or_from_slice_get}
use Rattle.loc_spec_plane.specs.Covers.{cover_above}
use Rattle.loc_spec_valid.specs.Breaches.{polygon_of}
use Rattle.loc_laws_valid.specs.Laws.{ring_of}
use Rattle.loc_valid.specs.{declared.least.Least.Least, declared.least.Least.TheVariants.Zero}
use Rattle.loc_valid.specs.Hits.{IsLeast, IsLeastOf, other_than, overlap_in}
use Rattle.loc_valid.proofs.Firsts.{overlap_here, ring_fits, ring_is, some_mark}
use Rattle.loc_valid.proofs.{Minima.edge_more, OddLists.by_polygons, OddLists.homes_climb}
use Rattle.loc_valid.proofs.RingHomes.{as_many_homes, home_is}
use Rattle.loc_valid.proofs.passes.first_overlap.Goals as goal

pub odd_lists-requires-clause-climbing : goal.odd_lists-requires-clause-climbing
odd_lists-requires-clause-climbing c = homes_climb c.args.rings.now c.args.homes.now c.requires.homed

pub odd_lists-requires-clause-named : goal.odd_lists-requires-clause-named
odd_lists-requires-clause-named c = c.requires.named ∙ sym (as_many_homes c.args.rings.now c.args.homes.now c.requires.homed)

pub ring_at-requires-clause-some : goal.ring_at-requires-clause-some
ring_at-requires-clause-some c = some_mark c.args.rings.now c.args.table.now c.requires.one c.requires.features c.loop-edge.edge (omega (arith, c.loop-edge-test.true, c.edge_count-edge-end.ensures.value))

pub bounds-homes-ring_at : goal.bounds-homes-ring_at
bounds-homes-ring_at c =
    let polygons = c.args.rings.now in
    let t = c.args.table.now in
    let e = c.loop-edge.edge in
    let le : e < length t.ends = omega (arith, c.loop-edge-test.true, c.edge_count-edge-end.ensures.value) in
    let ring : c.ring_at.result ≡ ring_of polygons t e = ring_is polygons t c.requires.one c.requires.features e c.ring_at.result le c.ring_at.ensures in
    omega (arith, ring, ring_fits polygons t c.requires.one c.requires.features e le, as_many_homes polygons c.args.homes.now c.requires.homed)

pub loop-edge-preserved : goal.loop-edge-preserved
loop-edge-preserved c =
    let polygons = c.args.rings.now in
    let homes = c.args.homes.now in
    let t = c.args.table.now in
    let rows = c.args.legend.now in
    let e = c.loop-edge.edge in
    let k = c.cover_of.result in
    let odd = c.in_ok-odd.odd.items in
    let hits = λ (d : ℕ). overlap_in polygons (ring_of polygons t d) (cover_above t d) in
    let le : e < length t.ends = omega (arith, c.loop-edge-test.true, c.edge_count-edge-end.ensures.value) in
    let ring : c.ring_at.result ≡ ring_of polygons t e = ring_is polygons t c.requires.one c.requires.features e c.ring_at.result le c.ring_at.ensures in
    let n = get_or homes c.ring_at.result 0 in
    let home : n ≡ polygon_of polygons (ring_of polygons t e) = home_is polygons homes c.requires.homed c.ring_at.result ∙ ap (polygon_of polygons) ring in
    let list : get_or rows.lists k [] ≡ cover_above t e = ap (λ i. get_or rows.lists i []) (sym (get_or_from_slice_get rows.above e k 0 c.cover_of.ensures.value)) ∙ c.requires.is_true.above e le in
    let least : get_or odd k Zero ≡ c.index.result.now = get_or_default odd k Zero c.index.result.now (omega (arith, c.in_ok-odd.ensures.0, c.cover_of.ensures.in_range)) ∙ sym c.index.ensures in
    let here : IsLeast (hits e) (other_than (get_or odd k Zero) n) = overlap_here polygons t c.requires.one c.requires.features e n (get_or rows.lists k []) (get_or odd k Zero) home list (by_polygons polygons homes c.requires.homed (get_or rows.lists k []) (get_or odd k Zero) (c.in_ok-odd.ensures.1 k c.cover_of.ensures.in_range)) in
    subst (IsLeastOf hits (e + 1)) (sym c.lesser-least.ensures)
    (edge_more hits e c.loop-edge.least c.other_of.result c.loop-edge.invariant
    (subst (IsLeast (hits e)) (ap (λ (l : Least). other_than l n) least ∙ sym c.other_of.ensures) here))

pub returns : goal.returns
returns c =
    let same : c.loop-edge.edge ≡ length c.args.table.now.ends = omega (arith, c.loop-edge-test.false, c.edge_count-edge-end.ensures.value, c.loop-edge.auto.edge-end) in
    subst (λ n. IsLeastOf (λ d. overlap_in c.args.rings.now (ring_of c.args.rings.now c.args.table.now d) (cover_above c.args.table.now d)) n c.loop-edge.least) same c.loop-edge.invariant
