use Rattle.std.proofs.Common.{◌∙◌, ◌≡◌, Option, Some, None, List, MatchOption, Bor, ℕ, rules}
use Rattle.loc_spec_text.specs.Geometry.{Symbol, symbol_of, symbols}
use Rattle.loc_wkt.specs.Fronts.{open_at, point_mark_at}
use Rattle.loc_wkt.proofs.FrontLemmas.{at_none, no_point_mark, point_mark_first}
use Rattle.loc_wkt.proofs.points.behind_point_mark.Goals as goal

pub returns-in_err-word-clause-found : goal.returns-in_err-word-clause-found
returns-in_err-word-clause-found c = at_none _ _ _ c.from_residual.ensures (no_point_mark (symbols c.args.text.now) (search rules))

-- what the mark tells is what the front tells
along : (o : Option (Bor (List ℕ))) (x y : Option (List Symbol)) → x ≡ y → MatchOption o (y ≡ None) (λ rest. y ≡ Some (symbols rest.now)) → MatchOption o (x ≡ None) (λ rest. x ≡ Some (symbols rest.now))
along None x y e h = e ∙ h
along (Some r) x y e h = e ∙ h

pub returns-then-is_this_word-clause-found : goal.returns-then-is_this_word-clause-found
returns-then-is_this_word-clause-found c = along c.behind_open.result (point_mark_at (symbols c.args.text.now)) (open_at (symbols c.in_ok-word.rest.now))
    (point_mark_first (symbols c.args.text.now) (symbols c.in_ok-word.rest.now) (symbol_of c.in_ok-word.word.now) c.is_this_word.result _ (search rules) c.is_this_word.ensures.symbol c.if-is_this_word.true)
    c.behind_open.ensures.found

pub returns-else-is_this_word-clause-found : goal.returns-else-is_this_word-clause-found
returns-else-is_this_word-clause-found c =
    point_mark_first (symbols c.args.text.now) (symbols c.in_ok-word.rest.now) (symbol_of c.in_ok-word.word.now) c.is_this_word.result _ (search rules) c.is_this_word.ensures.symbol c.if-is_this_word.false
