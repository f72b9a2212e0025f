use Rattle.std.proofs.{Common.ap, Common.map, lemmas.Bool.and_parts}
use Rattle.clap.specs.Words.{app_of, is_simple}
use Rattle.loc_words.specs.Apps.{entry_of}
use Rattle.loc_words.proofs.parser.read_words.Goals as goal

pub returns-in-Ok : goal.returns-in-Ok
returns-in-Ok c = (c.in-Ok.ensures.kinds c.requires, ap (map entry_of) (c.in-Ok.ensures.matches (and_parts (is_simple (app_of c.args.command)) _ c.requires).0).0)
