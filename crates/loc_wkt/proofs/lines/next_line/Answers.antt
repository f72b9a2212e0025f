use Rattle.std.proofs.Common.{rules, sym, ◌∙◌}
use Rattle.loc_wkt.proofs.LineLemmas.{cut_line, cut_last}
use Rattle.loc_wkt.proofs.lines.next_line.Goals as goal

pub returns-in-Some-clause-found : goal.returns-in-Some-clause-found
returns-in-Some-clause-found c = cut_line c.args.text.now c.in-Some.i (sym c.feed_place.ensures.place ∙ c.in-Some.is)

pub returns-in-None-clause-found : goal.returns-in-None-clause-found
returns-in-None-clause-found c = cut_last c.args.text.now (search rules) (sym c.feed_place.ensures.place ∙ c.in-None.is)
