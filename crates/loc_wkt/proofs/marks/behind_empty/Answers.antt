use Rattle.std.proofs.Common.{rules}
use Rattle.loc_spec_text.specs.Geometry.{symbol_of, symbols}
use Rattle.loc_wkt.proofs.FrontLemmas.{at_none, empty_first, no_empty}
use Rattle.loc_wkt.proofs.marks.behind_empty.Goals as goal

pub returns-in_err-word-clause-found : goal.returns-in_err-word-clause-found
returns-in_err-word-clause-found c = at_none _ _ _ c.from_residual.ensures (no_empty (symbols c.args.text.now) (search rules))

pub returns-then-is_this_word-clause-found : goal.returns-then-is_this_word-clause-found
returns-then-is_this_word-clause-found c = empty_first (symbols c.args.text.now) (symbols c.in_ok-word.rest.now) (symbol_of c.in_ok-word.word.now) c.is_this_word.result _ (search rules) c.is_this_word.ensures.symbol c.if-is_this_word.true

pub returns-else-is_this_word-clause-found : goal.returns-else-is_this_word-clause-found
returns-else-is_this_word-clause-found c = empty_first (symbols c.args.text.now) (symbols c.in_ok-word.rest.now) (symbol_of c.in_ok-word.word.now) c.is_this_word.result _ (search rules) c.is_this_word.ensures.symbol c.if-is_this_word.false
