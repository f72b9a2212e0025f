use Rattle.loc_wkt.specs.{Passes.counted, NumberTexts.text_of}
use Rattle.std.proofs.Common.{◌+◌, ◌∙◌, ap}
use Rattle.loc_spec_text.specs.Bytes.{or_else}
use Rattle.loc_wkt.proofs.values.Values.value.Goals as goal

pub returns-clause-counted : goal.returns-clause-counted
unfolding counted
returns-clause-counted c = let v = c.args.self.now in
    ap (λ n. record v { numbers = n })
    (c.with-self.ensures ∙ ap (λ o. record { count = v.numbers.count + 1; fault = or_else v.numbers.fault o }) (c.number_fault.ensures v.scale (text_of c.args.text.now) c.on_grid-number.ensures.number))
