use Rattle.std.proofs.Common.{◌≡◌, ◌≤◌, ◌+◌, [], length, map}
use Rattle.std.specs.List.{enumerate_from}
use Rattle.loc_spec_text.specs.{Limits.most_text, Reading.reading}
use Rattle.loc_csvform.specs.Layer.{csv_row, features_from}
use Rattle.loc_csvform.specs.Records.{IsReading, bytes_of, records_of}
use Rattle.loc_csvform.proofs.csv_form.read_rows.Given as goal

abbrev pub invariant-loop-layer : goal.invariant-loop-layer
invariant-loop-layer l = (features_from (reading l.scale) (map (csv_row l.columns.count l.columns.wkt l.columns.id) (enumerate_from (l.row + 1) (records_of l.reader))) l.layer
    ≡ features_from (reading l.scale) (map (csv_row l.columns.count l.columns.wkt l.columns.id) (enumerate_from 1 (records_of l.fn.reader))) [])
    × IsReading l.reader × (l.row + length (bytes_of l.reader) ≤ most_text)

abbrev pub decreases-loop-layer : goal.decreases-loop-layer
decreases-loop-layer l = length (bytes_of l.reader)
