use Rattle.std.proofs.Common.{◌≡◌, ◌∙◌, ap, sym, None, Some}
use Rattle.std.specs.Prelude.{if◌then◌else◌}
use Rattle.loc_spec_text.specs.{Geometry.symbol_of, Geometry.symbols, Points.point_texts}
use Rattle.loc_wkt.specs.Fronts.{is_end}
use Rattle.loc_wkt.proofs.FrontLemmas.{at_none}
use Rattle.loc_wkt.proofs.TagLemmas.{is_nothing, marked_texts, nothing_by, pair_then, plain_texts}
use Rattle.loc_wkt.proofs.points.point_values.Goals as goal

pub returns-in_err-x-in-Some : goal.returns-in_err-x-in-Some
returns-in_err-x-in-Some c = at_none _ _ _ c.from_residual.ensures (marked_texts (symbols c.args.text.now) (symbols c.in-Some.inside.now) c.in-Some.ensures.found ∙ ap (pair_then is_end) c.in_err-x-in-Some.ensures)

pub returns-in_err-x-in-None : goal.returns-in_err-x-in-None
returns-in_err-x-in-None c = at_none _ _ _ c.from_residual-in_err-x-in-None.ensures (plain_texts (symbols c.args.text.now) c.in-None.ensures.found ∙ ap (pair_then is_nothing) c.in_err-x-in-None.ensures)

pub returns-then-is_close_mark : goal.returns-then-is_close_mark
returns-then-is_close_mark c = let r = c.in_ok-x-in-Some.ensures in
    let texts : point_texts (symbols c.args.text.now) ≡ Some r.0 = marked_texts (symbols c.args.text.now) (symbols c.in-Some.inside.now) c.in-Some.ensures.found ∙ ap (pair_then is_end) r.1
    ∙ ap (λ b. if b then Some r.0 else None) (sym c.is_close_mark.ensures ∙ c.if-is_close_mark.true) in (r.0, texts, r.2, r.3)

pub returns-else-is_close_mark : goal.returns-else-is_close_mark
returns-else-is_close_mark c = marked_texts (symbols c.args.text.now) (symbols c.in-Some.inside.now) c.in-Some.ensures.found ∙ ap (pair_then is_end) c.in_ok-x-in-Some.ensures.1
    ∙ ap (λ b. if b then Some c.in_ok-x-in-Some.ensures.0 else None) (sym c.is_close_mark.ensures ∙ c.if-is_close_mark.false)

pub returns-then-is_none : goal.returns-then-is_none
returns-then-is_none c = let r = c.in_ok-x-in-None.ensures in
    let alone = nothing_by (symbols c.in_ok-x-in-None.rest.now) c.next_symbol.result c.is_none.result (λ x. symbol_of x.0.now) (λ x. symbols x.1.now) c.next_symbol.ensures.found c.next_symbol.ensures.none c.is_none.ensures ∙ c.if-is_none.true in
    let texts : point_texts (symbols c.args.text.now) ≡ Some r.0 = plain_texts (symbols c.args.text.now) c.in-None.ensures.found ∙ ap (pair_then is_nothing) r.1 ∙ ap (λ b. if b then Some r.0 else None) alone in (r.0, texts, r.2, r.3)

pub returns-else-is_none : goal.returns-else-is_none
returns-else-is_none c = plain_texts (symbols c.args.text.now) c.in-None.ensures.found ∙ ap (pair_then is_nothing) c.in_ok-x-in-None.ensures.1
    ∙ ap (λ b. if b then Some c.in_ok-x-in-None.ensures.0 else None)
    (nothing_by (symbols c.in_ok-x-in-None.rest.now) c.next_symbol.result c.is_none.result (λ x. symbol_of x.0.now) (λ x. symbols x.1.now) c.next_symbol.ensures.found c.next_symbol.ensures.none c.is_none.ensures ∙ c.if-is_none.false)
