use Rattle.std.proofs.Common.{◌∙◌}
use Rattle.clap.specs.Words.{found_of}
use Rattle.loc_words.proofs.Whole.{stands_by_rows}
use Rattle.loc_words.proofs.parser.Given.stands.Goals as goal

pub returns : goal.returns
returns c = c.contains_id.ensures ∙ stands_by_rows (found_of c.args.self.now.matches).entries.items c.args.name.now
