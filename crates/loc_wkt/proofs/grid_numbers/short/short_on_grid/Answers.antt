use Rattle.std.proofs.Common.{◌∙◌, ◌-◌, ◌<◌, ◌%◌, ◌*◌, ◌/◌, arith, ap, sym, subst}
use Rattle.loc_spec_text.proofs.NumberLaws.{ten_pos}
use Rattle.loc_wkt.proofs.ShortGrid.{short_coarse, short_fine, short_off}
use Rattle.loc_wkt.proofs.grid_numbers.short.short_on_grid.Goals as goal

pub returns-then-number-places-clause-number : goal.returns-then-number-places-clause-number
returns-then-number-places-clause-number c = let n = c.args.number.now in
    let p = short_fine c.args.scale n.digits n.fraction n.text.now n.significand n.places n.raised n.lowered c.if-number-places.true in
    c.ranged.ensures.number c.args.scale n.text.now p.0 (p.1 ∙ ap (λ u. n.digits * u) (sym c.pow-unit.ensures)) c.is_negative.ensures

pub nonzero_rem-number : goal.nonzero_rem-number
nonzero_rem-number c = subst (λ u. 0 < u) (sym c.pow-unit-2.ensures) (ten_pos (c.args.number.now.fraction - c.args.scale))

pub nonzero_div-number : goal.nonzero_div-number
nonzero_div-number c = subst (λ u. 0 < u) (sym c.pow-unit-2.ensures) (ten_pos (c.args.number.now.fraction - c.args.scale))

pub returns-then-number-unit-eq0-clause-number : goal.returns-then-number-unit-eq0-clause-number
returns-then-number-unit-eq0-clause-number c = let n = c.args.number.now in
    let p = short_coarse c.args.scale n.digits n.fraction n.text.now n.significand n.places n.raised n.lowered (omega (arith, c.if-number-places.false)) (ap (λ u. n.digits % u) (sym c.pow-unit-2.ensures) ∙ c.if-number-unit-eq0.true) in
    c.ranged-then-number-unit-eq0.ensures.number c.args.scale n.text.now p.0 (p.1 ∙ ap (λ u. n.digits / u) (sym c.pow-unit-2.ensures)) c.is_negative-then-number-unit-eq0.ensures

pub returns-else-number-unit-eq0-clause-number : goal.returns-else-number-unit-eq0-clause-number
returns-else-number-unit-eq0-clause-number c = let n = c.args.number.now in
    short_off c.args.scale n.digits n.fraction n.text.now n.significand n.places n.raised n.lowered (omega (arith, c.if-number-places.false)) (λ e. c.if-number-unit-eq0.false (ap (λ u. n.digits % u) c.pow-unit-2.ensures ∙ e))
