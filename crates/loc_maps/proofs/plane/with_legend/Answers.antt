use Rattle.std.proofs.Common.{◌∙◌, ap, arith, length}
use Rattle.std.proofs.lemmas.List.{length-map}
use Rattle.loc_maps.proofs.plane.with_legend.Goals as goal

pub legend_of-requires-clause-features : goal.legend_of-requires-clause-features
legend_of-requires-clause-features g c = let table = c.requires.table.1 in omega (arith, table.1.features, simp length-map at (ap length table.0))

pub returns-in-Ok-clause-map : goal.returns-in-Ok-clause-map
returns-in-Ok-clause-map g c layer ids table =
    record { table = table.table; few_pieces = table.few_pieces; ended = table.ended; even = table.even; apart = c.requires.apart; ids = c.in-Ok.ensures.ids ∙ ids; fits = c.in-Ok.ensures.fits; is_true = c.in-Ok.ensures.is_true }
