use Rattle.loc_spec_text.specs.Geometry.{symbols}
use Rattle.loc_wkt.proofs.{FrontLemmas.at_none, TagLemmas.half_pair, TagLemmas.no_pair, TagLemmas.pair_front}
use Rattle.loc_wkt.proofs.points.next_pair.Goals as goal

pub returns-in_err-x : goal.returns-in_err-x
returns-in_err-x c = at_none _ _ _ c.from_residual.ensures (no_pair (symbols c.args.text.now) c.in_err-x.ensures)

pub returns-in_err-y : goal.returns-in_err-y
returns-in_err-y c = let x = c.in_ok-x.ensures in at_none _ _ _ c.from_residual-in_err-y.ensures (half_pair (symbols c.args.text.now) (symbols c.in_ok-x.rest.now) x.0 x.1 c.in_err-y.ensures)

pub returns : goal.returns
returns c = let x = c.in_ok-x.ensures in let y = c.in_ok-y.ensures in ((x.0, y.0), pair_front (symbols c.args.text.now) (symbols c.in_ok-x.rest.now) (symbols c.in_ok-y.rest.now) x.0 y.0 x.1 y.1, x.2, y.2)
