use Rattle.std.proofs.Common.{sym, ap, ◌∙◌, ◌∷◌, length, rules, arith}
use Rattle.std.proofs.lemmas.List.{length-drop}
use Rattle.std.specs.List.{prefix_len}
use Rattle.loc_spec_text.specs.{Bytes.is_white, Geometry.symbol_of, Geometry.symbols}
use Rattle.loc_wkt.proofs.FrontLemmas.{at_none, no_number_first, nothing_first, number_first}
use Rattle.loc_wkt.specs.Fronts.{number_at}
use Rattle.loc_wkt.proofs.SymbolLemmas.{skipped}
use Rattle.loc_wkt.proofs.marks.next_number.Goals as goal

pub returns-in-Some-clause-found : goal.returns-in-Some-clause-found
returns-in-Some-clause-found c = ap number_at (skipped c.args.text.now c.skip_white-text.result.now c.skip_white-text.ensures) ∙ c.in-Some.ensures.found

pub returns-in_err-symbol-clause-found : goal.returns-in_err-symbol-clause-found
returns-in_err-symbol-clause-found c = let e = skipped c.args.text.now c.skip_white-text.result.now c.skip_white-text.ensures in
    at_none _ _ _ c.from_residual.ensures (nothing_first (symbols c.args.text.now) (e ∙ search rules))

pub returns-in_err-number-clause-found : goal.returns-in_err-number-clause-found
returns-in_err-number-clause-found c = let e = skipped c.args.text.now c.skip_white-text.result.now c.skip_white-text.ensures in
    at_none _ _ _ c.from_residual-in_err-number.ensures (no_number_first (symbols c.args.text.now) (symbols c.in_ok-symbol.rest.now) c.in_ok-symbol.symbol.now (e ∙ c.in_ok-symbol.ensures.found) (search rules))

pub returns-clause-found : goal.returns-clause-found
returns-clause-found c = let e = skipped c.args.text.now c.skip_white-text.result.now c.skip_white-text.ensures in
    number_first (symbols c.args.text.now) (symbols c.in_ok-symbol.rest.now) c.in_ok-number.number.text.now
    (e ∙ c.in_ok-symbol.ensures.found ∙ ap (λ run. symbol_of run ∷ symbols c.in_ok-symbol.rest.now) (sym c.in_ok-number.ensures.same)) c.in_ok-number.number.number

pub returns-in-Some-clause-shorter : goal.returns-in-Some-clause-shorter
returns-in-Some-clause-shorter c = omega (arith, c.in-Some.ensures.shorter, ap length c.skip_white-text.ensures, length-drop (prefix_len is_white c.args.text.now) c.args.text.now)

pub returns-in_err-symbol-clause-shorter : goal.returns-in_err-symbol-clause-shorter
returns-in_err-symbol-clause-shorter c = rw c.from_residual.ensures tt

pub returns-in_err-number-clause-shorter : goal.returns-in_err-number-clause-shorter
returns-in_err-number-clause-shorter c = rw c.from_residual-in_err-number.ensures tt

pub returns-clause-shorter : goal.returns-clause-shorter
returns-clause-shorter c = omega (arith, c.in_ok-symbol.ensures.shorter, ap length c.skip_white-text.ensures, length-drop (prefix_len is_white c.args.text.now) c.args.text.now)
