use Rattle.std.proofs.Common.{◌∙◌, ap, arith, rules, drop, length-drop, subst, w64}
use Rattle.std.proofs.{lemmas.Int.to_z-of_z, lemmas.List.take_all}
use Rattle.loc_io.specs.Streams.{TakesAll}
use Rattle.loc_spec_text.specs.Points.{grid_text}
use Rattle.loc_wkt.proofs.grid_texts.print_grid.Goals as goal

pub returns : goal.returns
returns g c = subst (λ t. TakesAll t (g.O.Sink.meaning c.args.sink.now) (g.O.Sink.meaning c.write_all.new.sink) c.write_all.result)
    (take_all _ (drop c.put_grid-start.result c.put_grid-start.new.room) (simp length-drop (omega arith)) ∙ c.put_grid-start.ensures.text ∙ ap (grid_text c.args.scale) (to_z-of_z w64 c.args.value (search rules))) c.write_all.ensures
