-- First the successor, then what is to be spliced out.
use Rattle.std.proofs.Common.{◌++◌}
use Rattle.loc_rb.proofs.removal.remove.Goals as goal

pub splice_out-requires-clause-place : goal.splice_out-requires-clause-place
splice_out-requires-clause-place g c = let r = c.requires.place in (r.0 ++ r.2, c.put_successor-last.ensures.tree r.0 r.1 r.2 r.3)

pub returns-clause-tree : goal.returns-clause-tree
returns-clause-tree g c L x H p = c.splice_out.ensures.tree (L ++ H) (c.put_successor-last.ensures.tree L x H p)
