use Rattle.std.proofs.Common.{arith, ◌∙◌, ◌∷◌, sym, ap, ap₂, refl}
use Rattle.std.proofs.lemmas.List.{take_rest}
use Rattle.loc_spec_text.specs.Geometry.{symbols, symbol_of}
use Rattle.loc_wkt.proofs.{FirstSymbol.no_symbol, FirstSymbol.symbols_behind, TokenTurns.turn_starts}
use Rattle.loc_wkt.proofs.tokens.symbols.next_symbol.Goals as goal

pub returns-then-white-text-clause-none : goal.returns-then-white-text-clause-none
returns-then-white-text-clause-none c = no_symbol c.args.text.now c.white_length-white.result c.white_length-white.ensures.front (omega arith)

pub symbol_length-requires-clause-no_white : goal.symbol_length-requires-clause-no_white
symbol_length-requires-clause-no_white c = turn_starts c.args.text.now c.white_length-white.result c.white_length-white.ensures.front (omega arith) _ refl

pub returns-clause-found : goal.returns-clause-found
returns-clause-found c = symbols_behind c.args.text.now c.white_length-white.result c.white_length-white.ensures.front ∙ ap symbols (sym (take_rest c.args.text.now c.white_length-white.result)) ∙ c.symbol_length.ensures.cut ∙ ap₂ (λ x y. symbol_of x ∷ symbols y) (sym c.split_at.ensures.front) (sym c.split_at.ensures.back)
