use Rattle.std.proofs.Common.{◌≡◌, ◌∙◌, ap, ◌+◌, ◌-◌, ◌*◌, ◌^◌, min, arith, rules, take, get_or, []}
use Rattle.std.specs.Str.Parse.{digits_value}
use Rattle.loc_wkt.proofs.DigitLemmas.{digits_behind, capped_more}
use Rattle.loc_wkt.proofs.grid_numbers.digits.capped_value.Goals as goal

pub loop-b-preserved : goal.loop-b-preserved
loop-b-preserved c =
    let ds = c.args.digits.now in
    let digit = get_or c.args.digits.now c.loop-b.b-index 0 - 48 in
    let kept : c.min-value.result ≡ min (c.loop-b.value * 10 + (get_or c.args.digits.now c.loop-b.b-index 0 - 48)) (2 ^ 66) = search rules in
    kept ∙ ap (λ v. min (v * 10 + digit) (2 ^ 66)) c.loop-b.invariant ∙ capped_more (digits_value 10 (take c.loop-b.b-index ds)) digit (2 ^ 66)
    ∙ ap (λ v. min v (2 ^ 66)) (digits_behind [] ds c.loop-b.b-index (omega arith) c.requires)
