-- The layer of a text, row by row.
use Rattle.std.proofs.Common.{◌≡◌, ℕ, ◌+◌, List, [], ◌∷◌, Bool, true, false, Option, Some, None, Result, Ok, Err, codes, length, cond, refl, sym, subst, ap, map, filter}
use Rattle.std.specs.{List.enumerate_from, Fmt.decimal, Result.IsErrAnd, Result.IfErr}
use Rattle.std.proofs.lemmas.Bool.{eq-eqb}
use Rattle.loc_spec_text.specs.{declared.TextFault.TextFault, Bytes.is_blank, Bytes.lines, Bytes.result_and_then}
use Rattle.loc_spec_text.specs.Reading.{Polygons, reading}
use Rattle.loc_rings.specs.Values.{Feature}
use Rattle.loc_csvform.specs.{declared.faults.LayerFault.LayerFault, Faults.IsFaultOf}
use Rattle.loc_csvform.specs.declared.faults.LayerFault.TheVariants as f
use Rattle.loc_csvform.specs.Layer.{LayerRead, RowRead, column, csv_row, csv_rows, features_from, field, is_row_line, line_row, row_id, row_of, text_reading, with_row}

-- the layer, given the features of the lines so far and the rest of the text behind them
abbrev pub later : ℕ → ℕ → List ℕ → List Feature → LayerRead
later scale row rest features = features_from (reading scale) (map line_row (filter is_row_line (enumerate_from (row + 1) (lines rest)))) features

-- what is left of the numbered lines, by whether the first is blank
chosen : (n : ℕ) (line : List ℕ) (ls : List (ℕ × List ℕ)) (blank : Bool) → is_blank line ≡ blank → filter is_row_line ((n, line) ∷ ls) ≡ cond blank (filter is_row_line ls) ((n, line) ∷ filter is_row_line ls)
chosen n line ls true e = rw e refl
chosen n line ls false e = rw e refl

numbered : (scale n : ℕ) (line : List ℕ) (ls : List (ℕ × List ℕ)) (features : List Feature) (blank : Bool) → is_blank line ≡ blank
    → features_from (reading scale) (map line_row (filter is_row_line ((n, line) ∷ ls))) features ≡ features_from (reading scale) (map line_row (cond blank (filter is_row_line ls) ((n, line) ∷ filter is_row_line ls))) features
numbered scale n line ls features blank e = ap (λ rest. features_from (reading scale) (map line_row rest) features) (chosen n line ls blank e)

-- another line is a row
pub read : (scale row : ℕ) (rest line more : List ℕ) (features : List Feature) → lines rest ≡ line ∷ lines more → is_blank line ≡ false
    → later scale row rest features ≡ result_and_then (with_row features (record { number = row + 1; id = decimal (row + 1); text = line }) (text_reading (reading scale) line)) (later scale (row + 1) more)
read scale row rest line more features cut full = rw cut (numbered scale (row + 1) line (enumerate_from (row + 1 + 1) (lines more)) features false full)

-- another blank line is none
pub skipped : (scale row : ℕ) (rest line more : List ℕ) (features : List Feature) → lines rest ≡ line ∷ lines more → is_blank line ≡ true → later scale row rest features ≡ later scale (row + 1) more features
skipped scale row rest line more features cut blank = rw cut (numbered scale (row + 1) line (enumerate_from (row + 1 + 1) (lines more)) features true blank)

-- the fault of a row is that of the layer
pub row_fault : (read : List ℕ → Result Polygons TextFault) (row : RowRead) (features : List Feature) (fault : LayerFault) → IsFaultOf row fault → IsFaultOf (features_from read (row ∷ []) features) fault
row_fault read row features f.NoMemory is = tt
row_fault read row features (f.Text n fault) is = (rw is.0 refl, is.1)
row_fault read row features f.NoColumn is = rw is refl
row_fault read row features (f.Ragged n) is = rw is refl
row_fault read row features (f.BadText n) is = rw is refl
row_fault read row features (f.LongId n) is = rw is refl
row_fault read row features (f.ManyFeatures n) is = rw is refl
row_fault read row features (f.ManyPoints n) is = rw is refl

-- a record of as many fields as the header has
pub same_count : (count wkt : ℕ) (id : Option ℕ) (n : ℕ) (fields : List (List ℕ)) → length fields ≡ count → csv_row count wkt id (n, fields) ≡ row_of n (row_id id n fields) (field fields wkt)
same_count count wkt id n fields same = rw (eq-eqb (length fields) count same) refl

-- a fault that is handed on
pub handed : {X : Type 0} (r : Result X LayerFault) (read : RowRead) (fault : LayerFault) (features : List Feature) (texts : List ℕ → Result Polygons TextFault) → IsErrAnd r (λ e. e ≡ fault) → IsFaultOf read fault → IfErr r (IsFaultOf (features_from texts (read ∷ []) features))
handed (Ok x) read fault features texts is of = absurd is
handed (Err e) read fault features texts is of = row_fault texts read features e (subst (IsFaultOf read) (sym is) of)

-- the layer of records, of which the first is the header
abbrev pub of_records : ℕ → List (List (List ℕ)) → LayerRead
of_records scale records = result_and_then (csv_rows records) (λ rows. features_from (reading scale) rows [])

-- one of no records
pub no_header : (scale : ℕ) (records : List (List (List ℕ))) → records ≡ [] → of_records scale records ≡ Err f.NoColumn
no_header scale records none = rw none refl

-- one whose first record has no geometry column
pub no_column : (scale : ℕ) (records : List (List (List ℕ))) (header : List (List ℕ)) (below : List (List (List ℕ))) → records ≡ header ∷ below → column (codes "wkt") header ≡ None → of_records scale records ≡ Err f.NoColumn
no_column scale records header below cut none = rw (cut, none) refl

-- and one whose first record has it
pub under_header : (scale : ℕ) (records : List (List (List ℕ))) (header : List (List ℕ)) (below : List (List (List ℕ))) (wkt : ℕ) → records ≡ header ∷ below → column (codes "wkt") header ≡ Some wkt
    → of_records scale records ≡ features_from (reading scale) (map (csv_row (length header) wkt (column (codes "id") header)) (enumerate_from 1 below)) []
under_header scale records header below wkt cut some = rw (cut, some) refl
