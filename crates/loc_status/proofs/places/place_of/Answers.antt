use Rattle.std.proofs.Common.{◌-◌}
use Rattle.loc_spec_plane.specs.Tables.{corner, hi_of}
use Rattle.loc_status.proofs.Standing.{chain_in_range, found_by_end}
use Rattle.loc_status.proofs.places.place_of.Goals as goal

pub search-requires-clause-in_range : goal.search-requires-clause-in_range
search-requires-clause-in_range c = let t = c.args.ranks.now in chain_in_range t (corner t (hi_of t c.args.edge - 1)) c.args.list.now c.requires.chain

pub returns : goal.returns
returns c = found_by_end c.args.ranks.now c.law.ensures.in_order c.args.edge c.requires.in_range c.args.list.now c.requires.chain c.requires.listed c.search.result c.search.ensures
