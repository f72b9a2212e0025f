use Rattle.std.proofs.Common.{◌∙◌, ap}
use Rattle.loc_spec_plane.specs.Tables.{edge}
use Rattle.loc_valid.proofs.Found.{crossing_first, not_uncrossed}
use Rattle.loc_valid.proofs.judging.judge_table.Goals as goal

pub returns-in-Err-Conflict-clause-breach : goal.returns-in-Err-Conflict-clause-breach
returns-in-Err-Conflict-clause-breach c =
    let shown = rw c.in-Err-Conflict.field-0-is at c.in-Err-Conflict.ensures.shown in
    crossing_first c.args.feature.now.polygons c.args.table.now c.requires.of_rings c.in-Err-Conflict.a c.in-Err-Conflict.b c.in-Err-Conflict.field-0-2 shown c.edge.result c.edge-in-Err-Conflict.result (c.edge.ensures ∙ ap (edge c.args.table.now) c.in-Err-Conflict.a-is) (c.edge-in-Err-Conflict.ensures ∙ ap (edge c.args.table.now) c.in-Err-Conflict.b-is) c.requires.segments

pub returns-in-Err-Conflict-clause-few_covers : goal.returns-in-Err-Conflict-clause-few_covers
returns-in-Err-Conflict-clause-few_covers c = λ many.
    (let shown = rw c.in-Err-Conflict.field-0-is at c.in-Err-Conflict.ensures.shown in
    not_uncrossed c.args.feature.now.polygons c.args.table.now c.requires.of_rings c.in-Err-Conflict.a c.in-Err-Conflict.b c.in-Err-Conflict.field-0-2 shown many.unpinched.uncrossed)
