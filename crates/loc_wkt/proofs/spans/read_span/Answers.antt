use Rattle.std.proofs.Common.{◌≡◌, ◌∙◌, sym, w64, of_z, to_z, rules}
use Rattle.std.proofs.lemmas.Int.{to_z-of_z}
use Rattle.loc_spec_text.specs.Geometry.{symbols}
use Rattle.loc_wkt.proofs.SpanTexts.{all_on, first_off, second_off, third_off}
use Rattle.loc_wkt.proofs.spans.read_span.Goals as goal

pub returns-in_err-x-2-clause-value : goal.returns-in_err-x-2-clause-value
returns-in_err-x-2-clause-value c = let r = c.in_ok-x.ensures in c.from_residual-in_err-x-2.ensures ∙ sym (first_off c.args.scale (symbols c.args.text.now) r.0.0 r.0.1 r.0.2 r.1 (sym c.in_err-x-2.was ∙ r.2.value))

pub returns-in_err-low-clause-value : goal.returns-in_err-low-clause-value
returns-in_err-low-clause-value c = let r = c.in_ok-x.ensures in c.from_residual-in_err-low.ensures ∙ sym (second_off c.args.scale (symbols c.args.text.now) r.0.0 r.0.1 r.0.2 r.1 _ (sym c.in_ok-x-2.was ∙ r.2.value) (sym c.in_err-low.was ∙ r.3.value))

pub returns-in_err-high-clause-value : goal.returns-in_err-high-clause-value
returns-in_err-high-clause-value c = let r = c.in_ok-x.ensures in c.from_residual-in_err-high.ensures ∙ sym (third_off c.args.scale (symbols c.args.text.now) r.0.0 r.0.1 r.0.2 r.1 _ _ (sym c.in_ok-x-2.was ∙ r.2.value) (sym c.in_ok-low.was ∙ r.3.value) (sym c.in_err-high.was ∙ r.4.value))

pub returns-clause-value : goal.returns-clause-value
returns-clause-value c = let r = c.in_ok-x.ensures in
    let x : to_z w64 (of_z w64 c.in_ok-x-2.field-0) ≡ c.in_ok-x-2.field-0 = to_z-of_z w64 c.in_ok-x-2.field-0 (search rules) in
    let low : to_z w64 (of_z w64 c.in_ok-low.field-0) ≡ c.in_ok-low.field-0 = to_z-of_z w64 c.in_ok-low.field-0 (search rules) in
    let high : to_z w64 (of_z w64 c.in_ok-high.field-0) ≡ c.in_ok-high.field-0 = to_z-of_z w64 c.in_ok-high.field-0 (search rules) in
    (rw (x, low, high) at c.span_between.ensures.value)
    ∙ sym (all_on c.args.scale (symbols c.args.text.now) r.0.0 r.0.1 r.0.2 r.1 _ _ (sym c.in_ok-x-2.was ∙ r.2.value) (sym c.in_ok-low.was ∙ r.3.value) _ (sym c.in_ok-high.was ∙ r.4.value))
