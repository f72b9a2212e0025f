use Rattle.std.proofs.Common.{◌≡◌, ◌+◌, ◌-◌, ◌++◌, ◌∷◌, [], ◌||◌, map, sym, ◌∙◌, ap, subst, arith}
use Rattle.std.specs.List.{list_any, range_with_len}
use Rattle.std.proofs.lemmas.Option.{get_or_from_slice_get}
use Rattle.loc_spec_plane.specs.{declared.Mark.Mark, Lists.is_in, Tables.has}
use Rattle.loc_laws_order.proofs.Kept.{range_more}
use Rattle.loc_cover.proofs.Gathered.{Gathers, begun, gathers_more}
use Rattle.loc_cover.proofs.touching.add_beginning.Goals as goal

pub loop-edge-preserved : goal.loop-edge-preserved
loop-edge-preserved c =
    let first = c.beginning-first.result.0 in
    let edge = c.loop-edge.edge in
    let row = get_or_from_slice_get c.args.table.now.marks c.loop-edge.edge c.marks.result.now [] c.marks.ensures.value in
    let from = c.loop-edge.invariant.from in
    let more : (c.loop-edge.edge + 1) - c.beginning-first.result.0 ≡ (c.loop-edge.edge - c.beginning-first.result.0) + 1 = omega (arith, from) in
    let last : c.beginning-first.result.0 + (c.loop-edge.edge - c.beginning-first.result.0) ≡ c.loop-edge.edge = omega (arith, from) in
    record {
      from = omega (arith, from);
      gathered = subst (λ es. Gathers c.args.table.now c.args.row.now.items c.add_features.new.row.items es) (sym (ap (range_with_len first) more ∙ (range_more first (edge - first) ∙ ap (λ k. range_with_len first (edge - first) ++ k ∷ []) last)))
          (gathers_more c.args.table.now c.args.row.now.items c.loop-edge.row.items c.add_features.new.row.items (range_with_len first (edge - first)) edge c.loop-edge.invariant.gathered
          (c.in_ok-add_features.ensures ∙ ap (λ ms. c.loop-edge.row.items ++ map (λ (m : Mark). m.feature) ms) (sym row)));
    }

pub returns : goal.returns
returns c = λ f.
    (let end : c.loop-edge.edge ≡ c.beginning-first.result.1 = omega (arith, c.loop-edge-test.false, c.loop-edge.auto.edge-end, c.beginning-first.ensures.in_order) in
    c.loop-edge.invariant.gathered f ∙ ap (λ b. is_in f c.args.row.now.items || b) (ap (λ n. list_any (has c.args.table.now f) (range_with_len c.beginning-first.result.0 (n - c.beginning-first.result.0))) end ∙ begun c.args.table.now c.args.corner c.beginning-first.result.0 c.beginning-first.result.1 f c.beginning-first.ensures))
