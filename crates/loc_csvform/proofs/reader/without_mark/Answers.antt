use Rattle.loc_csvform.proofs.Marks.{without}
use Rattle.loc_csvform.proofs.reader.without_mark.Goals as goal

pub returns-clause-value : goal.returns-clause-value
returns-clause-value c = without _ c.args.text c.strip_prefix.result c.unwrap_or.result c.strip_prefix.ensures.cases c.unwrap_or.ensures
