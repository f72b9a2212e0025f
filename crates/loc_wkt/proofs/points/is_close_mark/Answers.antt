use Rattle.std.proofs.Common.{◌∙◌, sym}
use Rattle.std.proofs.lemmas.Bool.{ne_eqb}
use Rattle.loc_spec_text.specs.Geometry.{symbol_of, symbols}
use Rattle.loc_wkt.proofs.FrontLemmas.{end_by, no_end, other_end}
use Rattle.loc_wkt.proofs.points.is_close_mark.Goals as goal

pub returns-then-mark-eq41 : goal.returns-then-mark-eq41
returns-then-mark-eq41 c = end_by (symbols c.args.text.now) (symbols c.in-Some.rest.now) c.in-Some.mark c.next_symbol.result c.is_none.result (λ x. symbol_of x.0.now) (λ x. symbols x.1.now)
    c.in-Some.ensures.found c.if-mark-eq41.true c.next_symbol.ensures.found c.next_symbol.ensures.none c.is_none.ensures

pub returns-else-mark-eq41 : goal.returns-else-mark-eq41
returns-else-mark-eq41 c = ne_eqb c.in-Some.mark 41 c.if-mark-eq41.false ∙ sym (other_end (symbols c.args.text.now) (symbols c.in-Some.rest.now) c.in-Some.mark c.in-Some.ensures.found c.if-mark-eq41.false)

pub returns-in-None : goal.returns-in-None
returns-in-None c = sym (no_end (symbols c.args.text.now) c.in-None.ensures.found)
