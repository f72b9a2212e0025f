use Rattle.std.proofs.Common.{sym}
use Rattle.loc_spec_text.specs.Number.{is_exponent_mark}
use Rattle.loc_spec_text.proofs.CutLaws.{cut_none, any_some}
use Rattle.loc_wkt.proofs.grid_numbers.parts.cut_at_exponent.Goals as goal

pub returns-in-Some-clause-has : goal.returns-in-Some-clause-has
returns-in-Some-clause-has c = sym (any_some is_exponent_mark c.args.text.now c.in-Some.i (sym c.in-Some.ensures.place))

pub returns-in-None-clause-has : goal.returns-in-None-clause-has
returns-in-None-clause-has c = sym (cut_none is_exponent_mark c.args.text.now (sym c.in-None.ensures.place)).2
