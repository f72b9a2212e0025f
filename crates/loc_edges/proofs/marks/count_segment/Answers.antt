use Rattle.std.proofs.Common.{◌≡◌, ◌+◌, ◌-◌, length, sym, ◌∙◌, ap, arith}
use Rattle.std.proofs.lemmas.List.{get_or_default}
use Rattle.loc_spec_plane.specs.declared.Mark.{Mark}
use Rattle.loc_edges.proofs.MarkRows.{count_again, count_first, count_other}
use Rattle.loc_edges.proofs.marks.count_segment.Goals as goal
use Rattle.loc_edges.proofs.marks.count_segment.Goals.{else-len-gt0-via-then-len-gt0+else-index-feature, else-len-gt0-via-else-len-gt0}

pub returns-then-index-feature : goal.returns-then-index-feature
returns-then-index-feature c = λ fs are.
    (let last : (c.len-len.result - 1) + 1 ≡ length c.args.row.now.items = omega (arith, c.len-len.ensures, c.if-len-gt0.true) in
    let there : c.index-then-index-feature.result.now ≡ c.index.result.now = c.index-then-index-feature.ensures ∙ (get_or_default c.args.row.now.items (c.len-len.result - 1) c.index-then-index-feature.result.now c.index.result.now (omega (arith, last)) ∙ sym c.index.ensures) in
    count_again c.args.row.now.items fs c.args.feature (c.len-len.result - 1) c.index-then-index-feature.result.now are last c.index-then-index-feature.ensures (ap (λ (m : Mark). m.feature) there ∙ c.if-index-feature.true))

pub returns-in_ok-push : goal.returns-in_ok-push
returns-in_ok-push c = λ fs are. c.in_ok-push.ensures.items ∙ elim c.else-len-gt0.branch [
  | else-len-gt0-via-then-len-gt0+else-index-feature w ↦ (let last : (c.len-len.result - 1) + 1 ≡ length c.args.row.now.items = omega (arith, c.len-len.ensures, w.if-len-gt0.true) in count_other c.args.row.now.items fs c.args.feature (c.len-len.result - 1) w.index.result.now are last w.index.ensures w.if-index-feature.false)
  | else-len-gt0-via-else-len-gt0 w ↦ (let none : length c.args.row.now.items ≡ 0 = omega (arith, c.len-len.ensures, w.if-len-gt0.false) in count_first c.args.row.now.items fs c.args.feature are none)
]
