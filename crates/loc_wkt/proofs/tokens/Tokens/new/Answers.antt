use Rattle.loc_wkt.proofs.TokenTurns.{are_tokens}
use Rattle.loc_wkt.proofs.tokens.Tokens.new.Goals as goal

pub returns : goal.returns
returns c = are_tokens c.args.text.now 0 0
