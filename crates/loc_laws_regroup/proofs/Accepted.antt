-- What a layer that was read is made of: ids within their limit, and rings that are closed, with all their points on the grid.
use Rattle.std.proofs.Common.{◌≡◌, ℕ, zero, suc, ◌+◌, ◌^◌, ◌<◌, ◌≤◌, Bool, true, false, not, List, [], ◌∷◌, ◌++◌, length, map, filter, Option, Some, None, Result, Ok, Err, refl, subst, arith}
use Rattle.std.specs.Prelude.{codes, nat_le, nat_lt, ◌==◌, if◌then◌else◌, ⊤}
use Rattle.std.specs.{Char.is_ascii_digit, Fmt.decimal, Str.is_utf8, Str.IsAscii}
use Rattle.std.specs.List.{AllByRecursion, enumerate_from, list_all, onto_first}
use Rattle.std.proofs.{lemmas.Bool.and_parts, lemmas.Bool.ltb-false, lemmas.Fmt.length-decimal-le}
use Rattle.std.proofs.lemmas.Str.{is_utf8-from_IsUtf8, IsUtf8-from_ascii}
use Rattle.csv.specs.Reading.{default_config, records, strip_bom}
use Rattle.loc_spec_text.specs.Bytes.{is_blank, lines, result_and_then, Text}
use Rattle.loc_spec_text.specs.{declared.Form.Form, declared.TextFault.TextFault, Reading.Polygons, Reading.reading}
use Rattle.loc_spec_text.specs.declared.Form.TheVariants as form
use Rattle.loc_spec_text.proofs.DigitLaws.{digit_range, decimal_digits}
use Rattle.loc_rings.specs.{Values.Feature, Layers.layer_points, Layers.point_count}
use Rattle.loc_spec_text.specs.Limits.{most_id_bytes}
use Rattle.loc_csvform.specs.declared.faults.LayerFault.{LayerFault}
use Rattle.loc_csvform.specs.declared.faults.LayerFault.TheVariants.{BadText, LongId, ManyFeatures, ManyPoints, Ragged}
use Rattle.loc_csvform.specs.Layer.{column, csv_row, csv_rows, features_from, field, is_row_line, layer_of, LayerRead, line_row, Row, row_id, row_of, RowRead, rows_of, rows_under, text_reading, with_feature, with_row}
use Rattle.loc_csvform.proofs.Marks.{within}
use Rattle.loc_laws_regroup.specs.Laws.{IsId}
use Rattle.loc_laws_regroup.proofs.Lists.{all_append, all_kept, all_map}
use Rattle.loc_laws_regroup.proofs.Readings.{IsReadRing, reading_good}

-- a feature that was read
pub record IsReadFeature (feature : Feature) : Type 0 where
  pub id : IsId feature.id
  pub rings : AllByRecursion (AllByRecursion IsReadRing) feature.polygons

-- a row without a fault has an id within its limit
abbrev HasId : RowRead → Type 0
HasId (Ok row) = IsId row.id
HasId (Err fault) = ⊤

-- ---- the rows of form csv
row_has : (n : ℕ) (id text : Text) → HasId (row_of n id text)
row_has n id text = by (is_utf8 id) (nat_lt most_id_bytes (length id)) refl refl
  where
    by : (utf8 long : Bool) → is_utf8 id ≡ utf8 → nat_lt most_id_bytes (length id) ≡ long → HasId (if not utf8 then Err (BadText n) else if long then Err (LongId n) else Ok (record { number = n; id = id; text = text }))
    by false long is_utf8 is_long = tt
    by true true is_utf8 is_long = tt
    by true false is_utf8 is_long = record { utf8 = is_utf8; short = ltb-false most_id_bytes (length id) is_long }

csv_has : (count wkt : ℕ) (id : Option ℕ) (n : ℕ) (fields : List Text) → HasId (csv_row count wkt id (n, fields))
csv_has count wkt id n fields = by (length fields == count)
  where
    by : (same : Bool) → HasId (if not same then Err (Ragged n) else row_of n (row_id id n fields) (field fields wkt))
    by false = tt
    by true = row_has n (row_id id n fields) (field fields wkt)

csv_all : (count wkt : ℕ) (id : Option ℕ) (n : ℕ) (below : List (List Text)) → AllByRecursion HasId (map (csv_row count wkt id) (enumerate_from n below))
csv_all count wkt id n [] = tt
csv_all count wkt id n (fields ∷ below) = (csv_has count wkt id n fields, csv_all count wkt id (n + 1) below)

-- ---- the rows of form lines, whose ids are numbers
digits_ascii : (ds : Text) → list_all is_ascii_digit ds ≡ true → IsAscii ds
digits_ascii [] digits i = omega arith
digits_ascii (c ∷ ds) digits zero = let range = digit_range c (and_parts (is_ascii_digit c) (list_all is_ascii_digit ds) digits).0 in omega (arith, range.1)
digits_ascii (c ∷ ds) digits (suc i) = digits_ascii ds (and_parts (is_ascii_digit c) (list_all is_ascii_digit ds) digits).1 i

decimal_id : (n : ℕ) → n < 2 ^ 64 → IsId (decimal n)
decimal_id n small =
    let short = length-decimal-le 20 n (omega arith) (omega arith) small in
    record { utf8 = is_utf8-from_IsUtf8 (decimal n) (IsUtf8-from_ascii (decimal n) (digits_ascii (decimal n) (decimal_digits n small))); short = omega (arith, short) }

few_lines : (text : Text) → length (lines text) ≤ length text
few_lines [] = omega arith
few_lines (b ∷ text) = by (b == 10) (few_lines text)
  where
    more : (ls : List Text) → length (onto_first b ls) ≤ length ls + 1
    more [] = omega arith
    more (l ∷ ls) = omega arith

    by : (end : Bool) → length (lines text) ≤ length text → length (if end then [] ∷ lines text else onto_first b (lines text)) ≤ length (b ∷ text)
    by true few = omega (arith, few)
    by false few = let one = more (lines text) in omega (arith, few, one)

numbered_all : (n : ℕ) (ls : List Text) → n + length ls < 2 ^ 64 → AllByRecursion (λ (p : ℕ × Text). p.0 < 2 ^ 64) (enumerate_from n ls)
numbered_all n [] few = tt
numbered_all n (l ∷ ls) few = (omega (arith, few), numbered_all (n + 1) ls (omega (arith, few)))

line_has : (p : ℕ × Text) → p.0 < 2 ^ 64 → HasId (line_row p)
line_has p small = decimal_id p.0 small

lines_all : (text : Text) → length text ≤ 2 ^ 28 → AllByRecursion HasId (map line_row (filter is_row_line (enumerate_from 1 (lines text))))
lines_all text few =
    let many = few_lines text in
    all_map (λ (p : ℕ × Text). p.0 < 2 ^ 64) HasId line_row line_has (filter is_row_line (enumerate_from 1 (lines text)))
    (all_kept (λ (p : ℕ × Text). p.0 < 2 ^ 64) is_row_line (enumerate_from 1 (lines text)) (numbered_all 1 (lines text) (omega (arith, few, many))))

-- ---- features
with_good : (n : ℕ) (done layer : List Feature) (feature : Feature) → AllByRecursion IsReadFeature done → IsReadFeature feature → with_feature n done feature ≡ Ok layer → AllByRecursion IsReadFeature layer
with_good n done layer feature good own = by (nat_le (2 ^ 18) (length done)) (nat_lt (2 ^ 20) (layer_points done + point_count feature))
  where
    by : (many points : Bool) → (if many then Err (ManyFeatures n) else if points then Err (ManyPoints n) else Ok (done ++ feature ∷ [])) ≡ Ok layer → AllByRecursion IsReadFeature layer
    by true points is = absurd (cc)
    by false true is = absurd (cc)
    by false false is = let same : done ++ feature ∷ [] ≡ layer = cc in subst (AllByRecursion IsReadFeature) same (all_append IsReadFeature done (feature ∷ []) good (own, tt))

text_good : (scale : ℕ) (text : Text) (polygons : Polygons) → text_reading (reading scale) text ≡ Ok polygons → AllByRecursion (AllByRecursion IsReadRing) polygons
text_good scale text polygons = by (is_blank text)
  where
    by : (blank : Bool) → (if blank then Ok [] else reading scale text) ≡ Ok polygons → AllByRecursion (AllByRecursion IsReadRing) polygons
    by true read = let same : ◌≡◌ {A = Polygons} [] polygons = cc in subst (AllByRecursion (AllByRecursion IsReadRing)) same tt
    by false read = reading_good scale text polygons read

row_good : (scale : ℕ) (row : Row) (done layer : List Feature) → IsId row.id → AllByRecursion IsReadFeature done → with_row done row (text_reading (reading scale) row.text) ≡ Ok layer → AllByRecursion IsReadFeature layer
row_good scale row done layer id good = by (text_reading (reading scale) row.text) refl
  where
    by : (read : Result Polygons TextFault) → text_reading (reading scale) row.text ≡ read → with_row done row read ≡ Ok layer → AllByRecursion IsReadFeature layer
    by (Err fault) is with = absurd (cc)
    by (Ok polygons) is with = with_good row.number done layer (record { id = row.id; polygons = polygons }) good (record { id = id; rings = text_good scale row.text polygons is }) with

features_good : (scale : ℕ) (rows : List RowRead) (done layer : List Feature) → AllByRecursion HasId rows → AllByRecursion IsReadFeature done → features_from (reading scale) rows done ≡ Ok layer → AllByRecursion IsReadFeature layer
features_good scale [] done layer ids good is = let same : done ≡ layer = cc in subst (AllByRecursion IsReadFeature) same good
features_good scale (Err fault ∷ rows) done layer ids good is = absurd (cc)
features_good scale (Ok row ∷ rows) done layer ids good is = by (with_row done row (text_reading (reading scale) row.text)) refl (λ more. features_good scale rows more layer ids.1) is
  where
    by : (step : LayerRead) → with_row done row (text_reading (reading scale) row.text) ≡ step → ((more : List Feature) → AllByRecursion IsReadFeature more → features_from (reading scale) rows more ≡ Ok layer → AllByRecursion IsReadFeature layer)
        → result_and_then step (features_from (reading scale) rows) ≡ Ok layer → AllByRecursion IsReadFeature layer
    by (Err fault) taken rest is = absurd (cc)
    by (Ok more) taken rest is = rest more (row_good scale row done more ids.0 good taken) is

-- ---- the layer
abbrev RowsGood : Result (List RowRead) LayerFault → Type 0
RowsGood (Ok rows) = AllByRecursion HasId rows
RowsGood (Err fault) = ⊤

under_good : (header : List Text) (wkt : Option ℕ) (below : List (List Text)) → RowsGood (rows_under header wkt below)
under_good header None below = tt
under_good header (Some wkt) below = csv_all (length header) wkt (column (codes "id") header) 1 below

csv_good : (all : List (List Text)) → RowsGood (csv_rows all)
csv_good [] = tt
csv_good (header ∷ below) = under_good header (column (codes "wkt") header) below

rows_good : (f : Form) (text : Text) → length text ≤ 2 ^ 28 → RowsGood (rows_of f text)
rows_good form.Lines text few = let shorter = within text in lines_all (strip_bom text) (omega (arith, few, shorter))
rows_good form.Csv text few = csv_good (records default_config (strip_bom text))

by_rows : (scale : ℕ) (layer : List Feature) (rows : Result (List RowRead) LayerFault) → RowsGood rows → result_and_then rows (λ rows. features_from (reading scale) rows []) ≡ Ok layer → AllByRecursion IsReadFeature layer
by_rows scale layer (Err fault) good is = absurd (cc)
by_rows scale layer (Ok rows) good is = features_good scale rows [] layer good tt is

-- each feature of a layer that was read
pub layer_good : (f : Form) (scale : ℕ) (text : Text) (layer : List Feature) → length text ≤ 2 ^ 28 → layer_of f scale text ≡ Ok layer → AllByRecursion IsReadFeature layer
unfolding layer_of
layer_good f scale text layer few read = by_rows scale layer (rows_of f text) (rows_good f text few) read
