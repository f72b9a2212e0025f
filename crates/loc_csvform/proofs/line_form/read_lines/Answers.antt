use Rattle.std.proofs.Common.{◌∙◌, sym, arith}
use Rattle.loc_csvform.proofs.Layers.{skipped}
use Rattle.loc_csvform.proofs.line_form.read_lines.Goals as goal

pub loop-line-preserved : goal.loop-line-preserved
loop-line-preserved c =
    let same = skipped c.args.scale c.loop-line.row c.loop-line.rest.now c.in-Some.line.now c.in-Some.more.now c.loop-line.layer c.in-Some.ensures.found (sym c.if-not-is_blank.ensures) in
    (sym same ∙ c.loop-line.invariant.0, omega (arith, c.in-Some.ensures.shorter), c.requires.size)
