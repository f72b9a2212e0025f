use Rattle.std.proofs.Common.{◌∙◌, sym, subst}
use Rattle.loc_spec_plane.specs.Tables.{NoConflict}
use Rattle.loc_edges.specs.Layers.{layer_rings}
use Rattle.loc_laws_noding.proofs.Noded.{plain_is_noded}
use Rattle.loc_valid.proofs.parts.plain_swept.Goals as goal

pub returns-in-Ok-clause-table : goal.returns-in-Ok-clause-table
returns-in-Ok-clause-table c = c.in_ok-table.ensures.ok ∙ sym (plain_is_noded (layer_rings c.args.layer.now) (subst NoConflict c.in_ok-table.ensures.ok c.in-Ok.ensures.apart))
