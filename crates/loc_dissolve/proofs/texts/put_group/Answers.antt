use Rattle.std.proofs.{Common.ap, lemmas.Result.err_from_is_err_and}
use Rattle.std.specs.List.{flat_map}
use Rattle.loc_spec_text.specs.Points.{quoted_byte}
use Rattle.loc_spec_groups.specs.GroupTexts.{polygons_text}
use Rattle.loc_dissolve.proofs.Written.{row_is}
use Rattle.loc_page.proofs.Pages.{both, put_same, stop}
use Rattle.loc_dissolve.proofs.texts.put_group.Goals as goal

pub returns-in_err-put : goal.returns-in_err-put
returns-in_err-put g c = put_same (row_is c.args.scale c.args.group.now) (stop _ c.in_err-put.was (err_from_is_err_and _ c.from_residual.ensures.1).1 c.put.ensures)

pub returns-in_err-put_polygons : goal.returns-in_err-put_polygons
returns-in_err-put_polygons g c = put_same (row_is c.args.scale c.args.group.now) (both c.in_ok-put.was c.put.ensures (stop _ c.in_err-put_polygons.was (err_from_is_err_and _ c.from_residual-in_err-put_polygons.ensures.1).1 (put_same (ap (polygons_text c.args.scale) c.polygons.ensures) c.put_polygons.ensures)))

pub returns-in_err-put-2 : goal.returns-in_err-put-2
returns-in_err-put-2 g c = put_same (row_is c.args.scale c.args.group.now) (both c.in_ok-put.was c.put.ensures (both c.in_ok-put_polygons.was (put_same (ap (polygons_text c.args.scale) c.polygons.ensures) c.put_polygons.ensures) (stop _ c.in_err-put-2.was (err_from_is_err_and _ c.from_residual-in_err-put-2.ensures.1).1 c.put-2.ensures)))

pub returns-in_err-put_doubled : goal.returns-in_err-put_doubled
returns-in_err-put_doubled g c = put_same (row_is c.args.scale c.args.group.now) (both c.in_ok-put.was c.put.ensures (both c.in_ok-put_polygons.was (put_same (ap (polygons_text c.args.scale) c.polygons.ensures) c.put_polygons.ensures) (both c.in_ok-put-2.was c.put-2.ensures (stop _ c.in_err-put_doubled.was (err_from_is_err_and _ c.from_residual-in_err-put_doubled.ensures.1).1 (put_same (ap (flat_map quoted_byte) c.id.ensures) c.put_doubled.ensures)))))

pub returns : goal.returns
returns g c = put_same (row_is c.args.scale c.args.group.now) (both c.in_ok-put.was c.put.ensures (both c.in_ok-put_polygons.was (put_same (ap (polygons_text c.args.scale) c.polygons.ensures) c.put_polygons.ensures) (both c.in_ok-put-2.was c.put-2.ensures (both c.in_ok-put_doubled.was (put_same (ap (flat_map quoted_byte) c.id.ensures) c.put_doubled.ensures) (c.put-3.ensures)))))
