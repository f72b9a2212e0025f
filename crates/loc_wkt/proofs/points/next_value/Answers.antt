use Rattle.loc_wkt.specs.NumberTexts.{text_of}
use Rattle.loc_wkt.proofs.FrontLemmas.{at_none}
use Rattle.loc_wkt.proofs.points.next_value.Goals as goal

pub returns-in_err-number : goal.returns-in_err-number
returns-in_err-number c = at_none _ _ _ c.from_residual.ensures c.in_err-number.ensures.found

pub returns : goal.returns
returns c = (text_of c.in_ok-number.number, c.in_ok-number.ensures.found, record { value = c.grid_value.ensures.value; bound = c.grid_value.ensures.bound })
