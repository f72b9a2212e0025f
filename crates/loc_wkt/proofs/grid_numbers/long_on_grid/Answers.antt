use Rattle.std.proofs.Common.{◌∙◌, ◌*◌, ap, sym, rules, not, true≢false}
use Rattle.loc_wkt.proofs.GridLemmas.{zero_kept, off_kept, far_kept, long_kept, near_kept}
use Rattle.loc_wkt.proofs.grid_numbers.long_on_grid.Goals as goal
use Rattle.loc_wkt.proofs.grid_numbers.long_on_grid.Goals.{else-decimal-eq0-via-then-decimal-eq0+else-not-decimal, else-decimal-eq0-via-else-decimal-eq0, then-decimal-via-then-decimal, then-decimal-via-else-decimal+then-places-gt18}

pub returns-then-not-decimal-clause-number : goal.returns-then-not-decimal-clause-number
returns-then-not-decimal-clause-number c = zero_kept c.args.scale c.args.number.now.text.now c.decimal_of-decimal.result c.decimal_of-decimal.ensures c.requires (search rules) (search rules)

pub returns-then-up-down-clause-number : goal.returns-then-up-down-clause-number
returns-then-up-down-clause-number c = off_kept c.args.scale c.args.number.now.text.now c.decimal_of-decimal.result c.decimal_of-decimal.ensures c.requires (elim c.else-decimal-eq0.branch [
  | else-decimal-eq0-via-then-decimal-eq0+else-not-decimal w ↦ λ h. true≢false (ap not (sym h.1) ∙ w.if-not-decimal.false)
  | else-decimal-eq0-via-else-decimal-eq0 w ↦ λ h. w.if-decimal-eq0.false h.0
]) c.if-up-down.true

pub returns-then-decimal-clause-number : goal.returns-then-decimal-clause-number
returns-then-decimal-clause-number c = elim c.then-decimal.branch [
  | then-decimal-via-then-decimal w ↦ long_kept c.args.scale c.args.number.now.text.now c.decimal_of-decimal.result c.decimal_of-decimal.ensures c.requires c.if-up-down.false w.if-decimal.true
  | then-decimal-via-else-decimal+then-places-gt18 w ↦ far_kept c.args.scale c.args.number.now.text.now c.decimal_of-decimal.result c.decimal_of-decimal.ensures c.requires (elim c.else-decimal-eq0.branch [
    | else-decimal-eq0-via-then-decimal-eq0+else-not-decimal v ↦ λ h. true≢false (ap not (sym h.1) ∙ v.if-not-decimal.false)
    | else-decimal-eq0-via-else-decimal-eq0 v ↦ λ h. v.if-decimal-eq0.false h.0
  ]) c.if-up-down.false w.if-places-gt18.true
]

pub returns-clause-number : goal.returns-clause-number
returns-clause-number c =
    let p = near_kept c.args.scale c.args.number.now.text.now c.decimal_of-decimal.result c.decimal_of-decimal.ensures c.requires c.if-up-down.false c.if-decimal.false c.if-places-gt18.false in
    c.ranged.ensures.number c.args.scale c.args.number.now.text.now p.0 (p.1 ∙ ap (λ u. c.decimal_of-decimal.result.digits.head * u) (sym c.pow.ensures)) c.is_negative.ensures
