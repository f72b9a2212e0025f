use Rattle.std.proofs.Common.{◌==◌, [], sym, subst}
use Rattle.std.specs.{Prelude.nat_lt, List.list_any}
use Rattle.std.proofs.lemmas.Option.{get_or_from_slice_get}
use Rattle.loc_spec_plane.specs.{declared.Mark.Mark, Lists.IsRisingListOf, Tables.has}
use Rattle.loc_cover.proofs.Gathered.{row_more}
use Rattle.loc_cover.proofs.touching.touching_edges.Goals as goal

pub loop-edge-preserved : goal.loop-edge-preserved
loop-edge-preserved c =
    let t = c.args.table.now in
    let rows = c.loop-edge.rows in
    let marks = get_or_from_slice_get t.marks c.loop-edge.edge c.marks.result.now [] c.marks.ensures.value in
    let more = row_more (λ e. IsRisingListOf nat_lt (λ f. has t f e)) rows c.push.new.self c.deref.result.now c.loop-edge.edge c.loop-edge.invariant.as_many c.loop-edge.invariant.each (subst (IsRisingListOf nat_lt (λ f. has t f c.loop-edge.edge)) (sym c.deref.ensures.value) (subst (λ ms. IsRisingListOf nat_lt (λ f. list_any (λ (m : Mark). m.feature == f) ms) c.put_features.new.row.items) (sym marks) c.in_ok-put_features.ensures)) c.in_ok-push.ensures in
    record { as_many = more.0; each = more.1 }
