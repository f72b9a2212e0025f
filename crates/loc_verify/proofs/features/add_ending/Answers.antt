use Rattle.std.proofs.Common.{◌<◌, [], ◌==◌, length, get_or, sym, ◌∙◌, ap, subst}
use Rattle.std.proofs.{lemmas.List.take_all, lemmas.List.take_more, lemmas.Option.get_or_from_slice_get}
use Rattle.loc_spec_plane.specs.{Lists.exactly_one, Lists.odd_many, Tables.edge_numbers, Tables.has_odd, Tables.hi_of}
use Rattle.loc_cover.specs.Exchanges.{is_marked_odd}
use Rattle.loc_cover.proofs.Gathered.{below_count}
use Rattle.loc_verify.specs.Least.{is_odd_in}
use Rattle.loc_verify.proofs.Odd.{GathersOdd, gathers_odd, odd-filter}
use Rattle.loc_verify.proofs.features.add_ending.Goals as goal

pub marks-requires : goal.marks-requires
marks-requires c =
    subst (λ ns. get_or ns c.loop-edge.edge-index 0 < length c.args.table.now.ends) (sym c.ending-edge-items.ensures)
    (below_count (λ e. hi_of c.args.table.now e == c.args.corner) (length c.args.table.now.ends) c.loop-edge.edge-index (subst (λ ns. c.loop-edge.edge-index < length ns) c.ending-edge-items.ensures c.loop-edge-test.true))

pub loop-edge-preserved : goal.loop-edge-preserved
loop-edge-preserved c =
    let items = c.ending-edge-items.result.now in
    let i = c.loop-edge.edge-index in
    let row = get_or_from_slice_get c.args.table.now.marks (get_or items i 0) c.marks.result.now [] c.marks.ensures.value in
    subst (λ es. GathersOdd c.args.table.now c.args.row.now.items c.add_odd.new.row.items es) (sym (take_more items i 0 c.loop-edge-test.true))
    (gathers_odd c.args.table.now c.args.row.now.items c.loop-edge.row.items c.add_odd.new.row.items _ (get_or items i 0) c.loop-edge.invariant
    (λ f. c.in_ok-add_odd.ensures f ∙ ap (λ ms. exactly_one (is_odd_in f c.loop-edge.row.items) (is_marked_odd ms f)) (sym row)))

pub returns : goal.returns
returns c = λ f.
    c.loop-edge.invariant f ∙ ap (exactly_one (is_odd_in f c.args.row.now.items)) (ap (odd_many (has_odd c.args.table.now f)) (take_all c.loop-edge.edge-index c.ending-edge-items.result.now c.loop-edge-test.false ∙ c.ending-edge-items.ensures)
    ∙ odd-filter c.args.table.now c.args.corner f (λ e. hi_of c.args.table.now e == c.args.corner) (has_odd c.args.table.now f) (edge_numbers c.args.table.now))
