use Rattle.std.proofs.Common.{◌∙◌, ap, arith, rules, drop, length-drop, w64}
use Rattle.std.proofs.{lemmas.Int.to_z-of_z, lemmas.List.take_all}
use Rattle.loc_page.proofs.Pages.{put_same}
use Rattle.loc_spec_text.specs.Points.{grid_text}
use Rattle.loc_faces.proofs.texts.put_value.Goals as goal

pub returns : goal.returns
returns g c = put_same (take_all _ (drop c.put_grid-start.result c.put_grid-start.new.room) (simp length-drop (omega arith)) ∙ c.put_grid-start.ensures.text ∙ ap (grid_text c.args.scale) (to_z-of_z w64 c.args.value (search rules))) c.put.ensures
