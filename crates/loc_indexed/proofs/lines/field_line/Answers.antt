use Rattle.std.proofs.Common.{◌≡◌, arith}
use Rattle.std.proofs.lemmas.Grind.{common_steps}
use Rattle.std.specs.Fmt.{decimal}
use Rattle.loc_course.specs.Lines.{part_text}
use Rattle.loc_indexed.proofs.lines.field_line.Goals as goal

pub returns : goal.returns
returns c =
    let bound : part_text c.number_piece-3.result ≡ decimal c.args.bound = c.number_piece-3.ensures in
    grind (arith, common_steps, bound)
