use Rattle.std.proofs.Common.{◌<◌, ℕ, List, [], length, sym, ◌∙◌, ap₂, subst, arith, ◌++◌}
use Rattle.std.specs.Prelude.{All}
use Rattle.std.proofs.lemmas.Option.{get_or_from_slice_get}
use Rattle.loc_spec_plane.specs.{declared.Mark.Mark, Covers.cover_above}
use Rattle.loc_spec_groups.specs.Groups.{is_kept}
use Rattle.loc_dissolve.specs.{Grouping.in_group, Keeping.IsCrossing, Keeping.odd_features}
use Rattle.loc_dissolve.proofs.Crossed.{groups_within, keeps_is, odd_named, row_is}
use Rattle.loc_dissolve.proofs.Keepers.{edge_if, filter_step}
use Rattle.loc_dissolve.proofs.kept.kept_pairs.Goals as goal

pub note-requires-clause-named : goal.note-requires-clause-named
note-requires-clause-named c = subst (λ (ms : List Mark). All (λ f. f < length c.args.groups.now) (odd_features ms)) (get_or_from_slice_get c.args.table.now.marks c.loop-edge.edge c.marks.result.now [] c.marks.ensures.value)
    (odd_named c.args.table.now c.law.ensures.in_order c.loop-edge.edge c.args.groups.now c.requires.features)

pub put_keepers-requires-clause-in_order : goal.put_keepers-requires-clause-in_order
put_keepers-requires-clause-in_order c =
    (row_is c.args.table.now c.args.groups.now c.args.legend.now c.args.members.now c.requires.is_true c.requires.members c.loop-edge.edge c.cover_of.result (omega (arith, c.loop-edge-test.true, c.edge_count-edge-end.ensures.value)) c.cover_of.ensures.value c.cover_of.ensures.in_range c.row-above.result.now c.row-above.ensures).in_order

pub loop-edge-preserved : goal.loop-edge-preserved
loop-edge-preserved c =
    let t = c.args.table.now in
    let e = c.loop-edge.edge in
    let groups = c.args.groups.now in
    let lt : c.loop-edge.edge < length c.args.table.now.ends = omega (arith, c.loop-edge-test.true, c.edge_count-edge-end.ensures.value) in
    let row = row_is c.args.table.now c.args.groups.now c.args.legend.now c.args.members.now c.requires.is_true c.requires.members c.loop-edge.edge c.cover_of.result lt c.cover_of.ensures.value c.cover_of.ensures.in_range c.row-above.result.now c.row-above.ensures in
    let is = subst (λ (ms : List Mark). IsCrossing c.args.groups.now (cover_above c.args.table.now c.loop-edge.edge) ms c.note.new.self) (sym (get_or_from_slice_get c.args.table.now.marks c.loop-edge.edge c.marks.result.now [] c.marks.ensures.value))
    (subst (λ (fs : List ℕ). IsCrossing c.args.groups.now fs c.marks.result.now c.note.new.self) (c.above.ensures ∙ c.requires.is_true.above c.loop-edge.edge lt) c.in_ok-note.ensures) in
    record {
      within = c.in_ok-put_keepers.ensures.within c.args.count c.loop-edge.invariant.within (groups_within t c.law.ensures.in_order e groups (cover_above t e) c.args.count c.note.new.self c.requires.features c.requires.groups is);
      rows = λ g. c.in_ok-put_keepers.ensures.gained g ∙ (ap₂ (λ (l : List ℕ) b. l ++ edge_if b e) (c.loop-edge.invariant.rows g) (keeps_is t c.law.ensures.in_order e groups c.requires.features g c.row-above.result.now c.note.new.self row is) ∙ sym (filter_step (is_kept t (in_group groups g)) e));
    }
