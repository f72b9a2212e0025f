use Rattle.loc_cover.proofs.Numbering.{number_found}
use Rattle.loc_cover.proofs.covers.list_under.Goals as goal

pub row-requires : goal.row-requires
row-requires c = (number_found c.args.table.now c.args.store.now.rows c.args.numbers.now c.requires.numbered c.args.below c.number_under.result c.requires.in_range c.number_under.ensures.none c.number_under.ensures.some c.in-Some.number c.in-Some.is).0
