-- A worked row, computed: the text of a group with an id that has a quote, at scale 1 with values on both sides of 0, and what it reads as.
use Rattle.std.proofs.Common.{◌≡◌, [], ◌∷◌, refl, codes}
use Rattle.std.specs.{Prelude.negsuc, Prelude.pos, Prelude.Ok, Char.encode_utf8, Fmt.digits, Str.is_utf8, Str.chars}
use Rattle.csv.specs.{Machine.next_record, Reading.records_from, Reading.strip_bom}
use Rattle.loc_spec_plane.specs.Points.{point_at}
use Rattle.loc_spec_text.specs.{declared.Form.TheVariants.Csv, Number.scaled, Number.unit}
use Rattle.loc_spec_text.specs.{Reader.geometry_of, Reader.wide_geometry_of, Reading.reading}
use Rattle.loc_csvform.specs.Layer.{layer_of}
use Rattle.loc_spec_groups.specs.{Groups.Group, GroupTexts.dissolved_text}

abbrev pub triangle : Group
triangle = record { id = codes "a\"b"; polygons = ((point_at (negsuc 4) (pos 0) ∷ point_at (pos 12) (negsuc 9) ∷ point_at (pos 0) (pos 105) ∷ []) ∷ []) ∷ [] }

triangle_text : dissolved_text 1 (triangle ∷ []) ≡ codes "wkt,id\n\"MULTIPOLYGON (((-0.5 0.0, 1.2 -1.0, 0.0 10.5, -0.5 0.0)))\",\"a\"\"b\"\n"
unfolding digits
triangle_text = refl

triangle_read : layer_of Csv 1 (codes "wkt,id\n\"MULTIPOLYGON (((-0.5 0.0, 1.2 -1.0, 0.0 10.5, -0.5 0.0)))\",\"a\"\"b\"\n")
    ≡ Ok (record { id = codes "a\"b"; polygons = ((point_at (negsuc 4) (pos 0) ∷ point_at (pos 12) (negsuc 9) ∷ point_at (pos 0) (pos 105) ∷ point_at (negsuc 4) (pos 0) ∷ []) ∷ []) ∷ [] } ∷ [])
unfolding layer_of strip_bom records_from next_record is_utf8 chars encode_utf8 digits reading geometry_of wide_geometry_of scaled unit
triangle_read = refl
