use Rattle.std.proofs.Common.{◌<◌, length, sym, ap, subst, arith}
use Rattle.std.proofs.lemmas.List.{get_or_read}
use Rattle.loc_cover.specs.Legends.{LegendRows}
use Rattle.loc_cover.proofs.legend.Legend.above.Goals as goal

pub index-requires : goal.index-requires
index-requires c = omega (arith, c.requires, ap (λ (rows : LegendRows). length rows.above) c.self.view_is, c.self.inside.above.ok.0)

pub row-requires : goal.row-requires
row-requires c =
    let fits : c.args.edge < length c.self.inside.above.items = omega (arith, c.requires, ap (λ (rows : LegendRows). length rows.above) c.self.view_is) in
    subst (λ n. n < length c.self.inside.lists) (sym (get_or_read c.self.inside.above.items c.args.edge c.index.result.now fits c.index.ensures 0)) (c.self.invariant.above_in_range c.args.edge fits)
