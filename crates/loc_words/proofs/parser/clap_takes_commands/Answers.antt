use Rattle.loc_words.proofs.Whole.{taken}
use Rattle.loc_words.proofs.parser.clap_takes_commands.Goals as goal

pub returns-clause-taken : goal.returns-clause-taken
returns-clause-taken c = taken
