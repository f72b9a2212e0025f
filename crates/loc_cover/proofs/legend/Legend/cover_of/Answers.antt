use Rattle.std.proofs.Common.{◌≡◌, ◌<◌, Some, length, sym, ◌∙◌, ap, subst, arith}
use Rattle.std.specs.Prelude.{slice_get}
use Rattle.std.proofs.{lemmas.List.get_or_read, lemmas.Option.slice_get-get_or}
use Rattle.loc_cover.specs.Legends.{LegendRows}
use Rattle.loc_cover.proofs.legend.Legend.cover_of.Goals as goal

pub index-requires : goal.index-requires
index-requires c = omega (arith, c.requires, ap (λ (rows : LegendRows). length rows.above) c.self.view_is, c.self.inside.above.ok.0)

pub returns-clause-value : goal.returns-clause-value
returns-clause-value c =
    let fits : c.args.edge < length c.self.inside.above.items = omega (arith, c.requires, ap (λ (rows : LegendRows). length rows.above) c.self.view_is) in
    subst (λ (rows : LegendRows). slice_get rows.above c.args.edge ≡ Some c.index.result.now) c.self.view_is (slice_get-get_or c.self.inside.above.items c.args.edge 0 fits ∙ ap (λ n. Some n) (sym (get_or_read c.self.inside.above.items c.args.edge c.index.result.now fits c.index.ensures 0)))

pub returns-clause-in_range : goal.returns-clause-in_range
returns-clause-in_range c =
    let fits : c.args.edge < length c.self.inside.above.items = omega (arith, c.requires, ap (λ (rows : LegendRows). length rows.above) c.self.view_is) in
    subst (λ (rows : LegendRows). c.index.result.now < length rows.lists) c.self.view_is (subst (λ n. n < length c.self.inside.lists) (sym (get_or_read c.self.inside.above.items c.args.edge c.index.result.now fits c.index.ensures 0)) (c.self.invariant.above_in_range c.args.edge fits))
