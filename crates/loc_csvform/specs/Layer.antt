-- The layer of a text in either form, or its one fault. The words: `Row`, `RowRead`, `LayerRead`, `line_row`, `is_row_line`, `line_rows`, `column`, `field`,
-- `row_id`, `row_of`, `csv_row`, `rows_under`, `csv_rows`, `rows_of`, `text_reading`, `with_feature`, `with_row`, `features_from`, `layer_of`.
use Rattle.std.specs.Prelude.{ℕ, ◌+◌, Bool, not, List, [], ◌∷◌, ◌++◌, map, length, codes, filter, nat_lt, nat_le, ◌==◌, if◌then◌else◌, Option, Some, None, option_map, unwrap_or, Result, Ok, Err, position, slice_index_or}
use Rattle.std.specs.{Fmt.decimal, List.enumerate_from, Str.is_utf8}
use Rattle.csv.specs.Reading.{records, strip_bom, default_config}
use Rattle.loc_spec_text.specs.{declared.Form.Form, declared.TextFault.TextFault, Reading.Polygons, Reading.reading}
use Rattle.loc_spec_text.specs.declared.Form.TheVariants as form
use Rattle.loc_spec_text.specs.Bytes.{is_blank, lines, same_word, result_and_then}
use Rattle.loc_rings.specs.{Values.Feature, Layers.point_count, Layers.layer_points}
use Rattle.loc_spec_text.specs.Limits.{most_features, most_id_bytes, most_points}
use Rattle.loc_csvform.specs.declared.faults.LayerFault.{LayerFault}
use Rattle.loc_csvform.specs.declared.faults.LayerFault.TheVariants.{NoColumn, Ragged, BadText, LongId, Text, ManyFeatures, ManyPoints}

-- a row: its number, the feature's id and its geometry text
pub record Row : Type 0 where
  pub number : ℕ
  pub id : List ℕ
  pub text : List ℕ

-- a row, or what is wrong with it before its text
abbrev pub RowRead : Type 0
RowRead = Result Row LayerFault

-- the features of a layer, or its fault
abbrev pub LayerRead : Type 0
LayerRead = Result (List Feature) LayerFault

-- form lines: the row of a numbered line, whose number in decimal is the id
abbrev pub line_row : ℕ × List ℕ → RowRead
line_row (n, line) = Ok (record { number = n; id = decimal n; text = line })

-- a line of white space alone is counted, and is no row
abbrev pub is_row_line : ℕ × List ℕ → Bool
is_row_line (n, line) = not (is_blank line)

-- the rows of a text in form lines
abbrev pub line_rows : List ℕ → List RowRead
line_rows text = map line_row (filter is_row_line (enumerate_from 1 (lines text)))

-- form csv: the first column of a name in any ASCII case
abbrev pub column : List ℕ → List (List ℕ) → Option ℕ
column name header = position (λ field. same_word field name) header

-- the field of a column
abbrev pub field : List (List ℕ) → ℕ → List ℕ
field fields n = slice_index_or fields n []

-- the id of a row: the field of the id column if there is one, else the number in decimal
abbrev pub row_id : Option ℕ → ℕ → List (List ℕ) → List ℕ
row_id id n fields = unwrap_or (option_map (field fields) id) (decimal n)

-- the row of an id and a text: an id that is not UTF-8 and one that is too long are faults, in this order
abbrev pub row_of : ℕ → List ℕ → List ℕ → RowRead
row_of n id text =
    if not (is_utf8 id) then Err (BadText n)
    else if nat_lt most_id_bytes (length id) then Err (LongId n)
    else Ok (record { number = n; id = id; text = text })

-- the row of a numbered record under a header of so many fields: another number of fields is the first fault
abbrev pub csv_row : ℕ → ℕ → Option ℕ → ℕ × List (List ℕ) → RowRead
csv_row count wkt id (n, fields) =
    if not (length fields == count) then Err (Ragged n)
    else row_of n (row_id id n fields) (field fields wkt)

-- the rows of the records under a header that has the geometry column, or not
abbrev pub rows_under : List (List ℕ) → Option ℕ → List (List (List ℕ)) → Result (List RowRead) LayerFault
rows_under header None below = Err NoColumn
rows_under header (Some wkt) below = Ok (map (csv_row (length header) wkt (column (codes "id") header)) (enumerate_from 1 below))

-- the rows of a text in form csv, whose first record is the header
abbrev pub csv_rows : List (List (List ℕ)) → Result (List RowRead) LayerFault
csv_rows [] = Err NoColumn
csv_rows (header ∷ below) = rows_under header (column (codes "wkt") header) below

-- the rows of a layer text, behind a byte order mark if it has one
abbrev pub rows_of : Form → List ℕ → Result (List RowRead) LayerFault
rows_of form.Lines text = Ok (line_rows (strip_bom text))
rows_of form.Csv text = csv_rows (records default_config (strip_bom text))

-- what a row's text reads as, by what reads a geometry text; a blank one has no rings
abbrev pub text_reading : (List ℕ → Result Polygons TextFault) → List ℕ → Result Polygons TextFault
text_reading read text = if is_blank text then Ok [] else read text

-- the features with one more, unless it is one too many, or its ring points are
abbrev pub with_feature : ℕ → List Feature → Feature → LayerRead
with_feature n features feature =
    if nat_le most_features (length features) then Err (ManyFeatures n)
    else if nat_lt most_points (layer_points features + point_count feature) then Err (ManyPoints n)
    else Ok (features ++ feature ∷ [])

-- the features with that of one more row, by what its text reads as
abbrev pub with_row : List Feature → Row → Result Polygons TextFault → LayerRead
with_row features row (Err fault) = Err (Text row.number fault)
with_row features row (Ok polygons) = with_feature row.number features (record { id = row.id; polygons = polygons })

-- the features so far with those of these rows, by what reads a geometry text; or the fault of the first faulty row
abbrev pub features_from : (List ℕ → Result Polygons TextFault) → List RowRead → List Feature → LayerRead
features_from read [] features = Ok features
features_from read (Err fault ∷ rows) features = Err fault
features_from read (Ok row ∷ rows) features = result_and_then (with_row features row (text_reading read row.text)) (features_from read rows)

-- the layer that a text is in a form at a scale, or its one fault
unfoldable pub layer_of : Form → ℕ → List ℕ → LayerRead
layer_of form scale text = result_and_then (rows_of form text) (λ rows. features_from (reading scale) rows [])
