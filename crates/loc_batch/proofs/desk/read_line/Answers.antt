use Rattle.std.proofs.Common.{◌++◌, ◌∙◌, ap}
use Rattle.loc_spec_text.specs.Points.{point_of}
use Rattle.loc_batch.specs.Blocks.{with_line}
use Rattle.loc_batch.proofs.Points.{point_kept}
use Rattle.loc_batch.proofs.desk.read_line.Goals as goal

pub returns-clause-block : goal.returns-clause-block
returns-clause-block g c = c.note.ensures ∙ ap (with_line c.args.block.now)
    (c.read_point.ensures ∙ (ap (point_of c.args.scale) (c.as_slice.ensures.value ∙ c.keep.ensures) ∙ point_kept c.args.scale (c.args.line.now.items ++ c.args.text.now)))
