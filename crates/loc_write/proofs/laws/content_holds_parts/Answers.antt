use Rattle.loc_write.proofs.Held.{content_holds_parts}
use Rattle.loc_write.proofs.laws.content_holds_parts.Goals as goal

pub returns : goal.returns
returns c = content_holds_parts
