use Rattle.std.proofs.Common.{◌<◌, ◌++◌, [], ◌||◌, ◌==◌, length, get_or, map, sym, ◌∙◌, ap, subst}
use Rattle.std.specs.List.{list_any}
use Rattle.std.proofs.{lemmas.List.take_all, lemmas.List.take_more, lemmas.Option.get_or_from_slice_get}
use Rattle.loc_spec_plane.specs.{declared.Mark.Mark, Lists.is_in, Tables.edge_numbers, Tables.has, Tables.hi_of}
use Rattle.loc_cover.proofs.Gathered.{Gathers, any-filter, below_count, gathers_more}
use Rattle.loc_cover.proofs.touching.add_ending.Goals as goal

pub marks-requires : goal.marks-requires
marks-requires c =
    subst (λ ns. get_or ns c.loop-edge.edge-index 0 < length c.args.table.now.ends) (sym c.ending-edge-items.ensures)
    (below_count (λ e. hi_of c.args.table.now e == c.args.corner) (length c.args.table.now.ends) c.loop-edge.edge-index (subst (λ ns. c.loop-edge.edge-index < length ns) c.ending-edge-items.ensures c.loop-edge-test.true))

pub loop-edge-preserved : goal.loop-edge-preserved
loop-edge-preserved c =
    let items = c.ending-edge-items.result.now in
    let i = c.loop-edge.edge-index in
    let row = get_or_from_slice_get c.args.table.now.marks (get_or items i 0) c.marks.result.now [] c.marks.ensures.value in
    subst (λ es. Gathers c.args.table.now c.args.row.now.items c.add_features.new.row.items es) (sym (take_more items i 0 c.loop-edge-test.true))
    (gathers_more c.args.table.now c.args.row.now.items c.loop-edge.row.items c.add_features.new.row.items _ (get_or items i 0) c.loop-edge.invariant
    (c.in_ok-add_features.ensures ∙ ap (λ ms. c.loop-edge.row.items ++ map (λ (m : Mark). m.feature) ms) (sym row)))

pub returns : goal.returns
returns c = λ f.
    c.loop-edge.invariant f ∙ ap (λ b. is_in f c.args.row.now.items || b) (ap (list_any (has c.args.table.now f)) (take_all c.loop-edge.edge-index c.ending-edge-items.result.now c.loop-edge-test.false ∙ c.ending-edge-items.ensures)
    ∙ any-filter (has c.args.table.now f) (λ e. hi_of c.args.table.now e == c.args.corner) (edge_numbers c.args.table.now))
