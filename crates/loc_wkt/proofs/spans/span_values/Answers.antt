use Rattle.loc_spec_text.specs.Geometry.{symbols, symbol_of}
use Rattle.loc_wkt.proofs.{FrontLemmas.at_none, SpanTexts.half_span, SpanTexts.span_by}
use Rattle.loc_wkt.proofs.spans.span_values.Goals as goal

pub returns-in_err-high : goal.returns-in_err-high
returns-in_err-high c = let x = c.in_ok-x.ensures in at_none _ _ _ c.from_residual-in_err-high.ensures (half_span (symbols c.args.text.now) (symbols c.in_ok-x.rest.now) x.0.0 x.0.1 x.1 c.in_err-high.ensures)

pub returns-then-is_none : goal.returns-then-is_none
returns-then-is_none c = let x = c.in_ok-x.ensures in let z = c.in_ok-high.ensures in
    let texts = span_by (symbols c.args.text.now) (symbols c.in_ok-x.rest.now) (symbols c.in_ok-high.rest.now) x.0.0 x.0.1 z.0 x.1 z.1 c.next_symbol.result c.is_none.result (λ x. symbol_of x.0.now) (λ x. symbols x.1.now) c.next_symbol.ensures.found c.next_symbol.ensures.none c.is_none.ensures in
    ((x.0.0, x.0.1, z.0), texts.0 c.if-is_none.true, x.2, x.3, z.2)

pub returns-else-is_none : goal.returns-else-is_none
returns-else-is_none c = let x = c.in_ok-x.ensures in let z = c.in_ok-high.ensures in
    (span_by (symbols c.args.text.now) (symbols c.in_ok-x.rest.now) (symbols c.in_ok-high.rest.now) x.0.0 x.0.1 z.0 x.1 z.1 c.next_symbol.result c.is_none.result (λ x. symbol_of x.0.now) (λ x. symbols x.1.now) c.next_symbol.ensures.found c.next_symbol.ensures.none c.is_none.ensures).1 c.if-is_none.false
