use Rattle.std.proofs.Common.{◌≡◌, ◌≤◌, [], length, ◌+◌}
use Rattle.loc_spec_text.specs.{Limits.most_text, Reading.reading}
use Rattle.loc_csvform.specs.Layer.{features_from, line_rows}
use Rattle.loc_csvform.proofs.Layers.{later}
use Rattle.loc_csvform.proofs.line_form.read_lines.Given as goal

abbrev pub invariant-loop-line : goal.invariant-loop-line
invariant-loop-line l = (later l.scale l.row l.rest l.layer ≡ features_from (reading l.scale) (line_rows l.text) []) × (l.row + length l.rest ≤ length l.text) × (length l.text ≤ most_text)

abbrev pub decreases-loop-line : goal.decreases-loop-line
decreases-loop-line l = length l.rest
