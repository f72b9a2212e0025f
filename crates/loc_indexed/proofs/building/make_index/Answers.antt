use Rattle.std.proofs.lemmas.Result.{err_from_is_err_and}
use Rattle.loc_course.specs.Following.{makes_by}
use Rattle.loc_maps.specs.MapCourses.{layer_file}
use Rattle.loc_indexed.proofs.MadeCourses.{behind_layer}
use Rattle.loc_indexed.proofs.Truly.{none_pass, none_truly, one_is, one_passes, one_truly}
use Rattle.loc_indexed.proofs.building.make_index.Goals as goal

pub returns-in_err-layer : goal.returns-in_err-layer
returns-in_err-layer g c =
    let p = err_from_is_err_and c.from_residual.result c.from_residual.ensures.1 in
    let file = layer_file c.args.name.now c.args.form c.args.scale in
    record { passes = none_pass; truly = none_truly c.args.scale; follows = λ o k. rw (p.1, p.2) (c.in_err-layer.ensures (behind_layer none_pass file c.args.index.now) o k) }

pub returns-in_err-plane : goal.returns-in_err-plane
returns-in_err-plane g c =
    let p = err_from_is_err_and c.from_residual-in_err-plane.result c.from_residual-in_err-plane.ensures.1 in
    let file = layer_file c.args.name.now c.args.form c.args.scale in
    record {
      passes = none_pass;
      truly = none_truly c.args.scale;
      follows = λ o k. c.in_ok-layer.ensures (behind_layer none_pass file c.args.index.now) o k _ _ (rw (p.1, p.2) (c.in_err-plane.ensures.goes_on _ _));
    }

pub returns : goal.returns
returns g c =
    let file = layer_file c.args.name.now c.args.form c.args.scale in
    let layer = c.in_ok-layer.layer in
    let made = c.write_plane-outcome.ensures layer (record { ids = c.ids_are_short.ensures; map = c.in_ok-plane.ensures.map }) in
    let passes = one_passes c.args.scale made.text in
    record {
      passes = passes;
      truly = one_truly c.args.scale made.text layer made.is;
      follows = λ o k. c.in_ok-layer.ensures (behind_layer passes file c.args.index.now) o k _ _
          (c.in_ok-plane.ensures.goes_on _ _ _ _ (makes_by made.text _ (one_is c.args.scale made.text layer made.is) made.makes));
    }
