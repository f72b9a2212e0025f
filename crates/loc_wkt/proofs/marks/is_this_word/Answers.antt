use Rattle.loc_wkt.proofs.WordLemmas.{same_symbol, same_text}
use Rattle.loc_wkt.proofs.marks.is_this_word.Goals as goal

pub returns-clause-letters : goal.returns-clause-letters
returns-clause-letters c = same_text c.args.name.now c.args.run.now c.requires.letters c.requires.capitals c.eq_ignore_ascii_case.result c.eq_ignore_ascii_case.ensures.test.0 c.eq_ignore_ascii_case.ensures.test.1

pub returns-clause-symbol : goal.returns-clause-symbol
returns-clause-symbol c = same_symbol c.args.name.now c.args.run.now c.requires.letters c.requires.capitals c.eq_ignore_ascii_case.result c.eq_ignore_ascii_case.ensures.test.0 c.eq_ignore_ascii_case.ensures.test.1
