use Rattle.std.proofs.Common.{◌∙◌, sym}
use Rattle.clap.specs.Words.{found_of, rows_of}
use Rattle.clap.proofs.WalkLemmas.{first_value-rows}
use Rattle.loc_words.proofs.Whole.{value_by_rows}
use Rattle.loc_words.proofs.parser.Given.value.Goals as goal

pub returns : goal.returns
returns c = c.get_str.ensures ∙ first_value-rows (found_of c.args.self.now.matches) c.args.name.now ∙ sym (value_by_rows (rows_of (found_of c.args.self.now.matches)) c.args.name.now)
