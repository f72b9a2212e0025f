-- Examples, computed: layers in both forms and their first faults.
use Rattle.std.proofs.Common.{◌≡◌, [], ◌∷◌, ◌++◌, refl, codes}
use Rattle.std.specs.Prelude.{Ok, Err, pos, replicate}
use Rattle.std.specs.{Char.encode_utf8, Fmt.digits, Str.is_utf8, Str.chars}
use Rattle.csv.specs.{Machine.next_record, Reading.records_from, Reading.strip_bom}
use Rattle.loc_spec_plane.specs.{Points.point_at, Rings.Ring}
use Rattle.loc_spec_text.specs.declared.Form.TheVariants.{Csv, Lines}
use Rattle.loc_spec_text.specs.{declared.TextFault.TheVariants.Syntax, Number.scaled, Number.unit}
use Rattle.loc_spec_text.specs.{Reader.geometry_of, Reader.wide_geometry_of, Reading.reading}
use Rattle.loc_csvform.specs.declared.faults.LayerFault.TheVariants.{NoColumn, Ragged, BadText, LongId, Text}
use Rattle.loc_csvform.specs.Layer.{layer_of, rows_of}

-- the square from 0 0 to 4 4
abbrev square : Ring
square = point_at (pos 0) (pos 0) ∷ point_at (pos 4) (pos 0) ∷ point_at (pos 4) (pos 4) ∷ point_at (pos 0) (pos 4) ∷ point_at (pos 0) (pos 0) ∷ []

one_line : layer_of Lines 0 (codes "POLYGON ((0 0, 4 0, 4 4, 0 4, 0 0))\n") ≡ Ok (record { id = codes "1"; polygons = (square ∷ []) ∷ [] } ∷ [])
unfolding layer_of strip_bom digits reading geometry_of wide_geometry_of scaled unit
one_line = refl

-- blank lines are counted and are no features, and the last line may lack its end
third_line : layer_of Lines 0 (codes "\n \t\npolygon(( 0 0,4 0,4.0 +4,0 40e-1,-0 00))") ≡ Ok (record { id = codes "3"; polygons = (square ∷ []) ∷ [] } ∷ [])
unfolding layer_of strip_bom digits reading geometry_of wide_geometry_of scaled unit
third_line = refl

no_lines : layer_of Lines 0 [] ≡ Ok []
unfolding layer_of strip_bom
no_lines = refl

-- a byte order mark is dropped
marked_line : layer_of Lines 0 (0xEF ∷ 0xBB ∷ 0xBF ∷ codes "POLYGON EMPTY") ≡ Ok (record { id = codes "1"; polygons = [] ∷ [] } ∷ [])
unfolding layer_of strip_bom digits reading geometry_of wide_geometry_of scaled unit
marked_line = refl

-- the first faulty line is named
second_line : layer_of Lines 0 (codes "POLYGON ((0 0, 4 0, 4 4, 0 4, 0 0))\nPOLYGON ((0 0, 4\nx\n") ≡ Err (Text 2 Syntax)
unfolding layer_of strip_bom digits reading geometry_of wide_geometry_of scaled unit
second_line = refl

quoted_export : rows_of Csv (codes "WKT,id,name\r\n\"POLYGON ((13.377 52.516,13.378 52.516,13.378 52.517,13.377 52.517,13.377 52.516))\",\"Lot 7 \"\"east\"\"\",x\r\n")
    ≡ Ok (Ok (record { number = 1; id = codes "Lot 7 \"east\""; text = codes "POLYGON ((13.377 52.516,13.378 52.516,13.378 52.517,13.377 52.517,13.377 52.516))" }) ∷ [])
unfolding strip_bom records_from next_record is_utf8 chars encode_utf8
quoted_export = refl

ragged_row : layer_of Csv 0 (codes "wkt,id\na,b,c\n") ≡ Err (Ragged 1)
unfolding layer_of strip_bom records_from next_record
ragged_row = refl

-- the columns by their names; a header without the geometry column, and no header
no_column : layer_of Csv 0 (codes "geom,id\n") ≡ Err NoColumn
unfolding layer_of strip_bom records_from next_record
no_column = refl

no_header : layer_of Csv 0 [] ≡ Err NoColumn
unfolding layer_of strip_bom records_from next_record
no_header = refl

no_records : layer_of Csv 0 (codes "\n\n") ≡ Err NoColumn
unfolding layer_of strip_bom records_from next_record
no_records = refl

id_not_utf8 : layer_of Csv 0 (codes "wkt,id\nPOLYGON EMPTY," ++ 255 ∷ 10 ∷ []) ≡ Err (BadText 1)
unfolding layer_of strip_bom records_from next_record is_utf8 chars
id_not_utf8 = refl

long_id : layer_of Csv 0 (codes "wkt,id\nPOLYGON EMPTY," ++ replicate 201 97 ++ 10 ∷ []) ≡ Err (LongId 1)
unfolding layer_of strip_bom records_from next_record is_utf8 chars encode_utf8
long_id = refl

longest_id : layer_of Csv 0 (codes "wkt,id\nPOLYGON EMPTY," ++ replicate 200 97 ++ 10 ∷ []) ≡ Ok (record { id = replicate 200 97; polygons = [] ∷ [] } ∷ [])
unfolding layer_of strip_bom records_from next_record is_utf8 chars encode_utf8 reading geometry_of wide_geometry_of scaled unit
longest_id = refl

-- a blank field is a feature without rings; without an id column the id is the row's number; empty lines are no records
blank_field : layer_of Csv 0 (codes "a,Wkt\nx, \n\ny,POLYGON EMPTY") ≡ Ok (record { id = codes "1"; polygons = [] } ∷ record { id = codes "2"; polygons = [] ∷ [] } ∷ [])
unfolding layer_of strip_bom records_from next_record is_utf8 chars encode_utf8 digits reading geometry_of wide_geometry_of scaled unit
blank_field = refl
