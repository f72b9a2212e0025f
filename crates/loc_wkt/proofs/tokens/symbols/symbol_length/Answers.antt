use Rattle.std.proofs.Common.{rules}
use Rattle.loc_wkt.proofs.FirstSymbol.{plain_symbol}
use Rattle.loc_wkt.proofs.tokens.symbols.symbol_length.Goals as goal

pub returns-else-is_mark-clause-cut : goal.returns-else-is_mark-clause-cut
returns-else-is_mark-clause-cut c = (plain_symbol c.args.text.now c.run_length.result c.requires.some c.requires.no_white (search rules) c.run_length.ensures.front).1
