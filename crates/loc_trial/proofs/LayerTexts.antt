-- The text of a generated layer, line by line.
use Rattle.std.proofs.Common.{◌≡◌, ℕ, zero, suc, ◌+◌, ◌*◌, ◌^◌, ◌<◌, ◌≤◌, true, false, List, [], ◌∷◌, ◌++◌, length, map, filter, append_assoc, append-nil, length-append, Ok, refl, sym, ◌∙◌, ap, arith}
use Rattle.std.specs.Prelude.{◌==◌, codes, nat_le, nat_lt}
use Rattle.std.specs.{Char.is_ascii_digit, Fmt.decimal}
use Rattle.std.specs.List.{AllByRecursion, enumerate_from, flat_map, list_all, range_with_len}
use Rattle.std.proofs.lemmas.Bool.{and_parts, false_from_ne_true, lt-leb, ne_eqb}
use Rattle.std.proofs.{lemmas.Bool.Decides.Decides-ltb, lemmas.List.Sums.sum_by_push}
use Rattle.std.proofs.lemmas.Nat.{mod_below, mul-le}
use Rattle.csv.specs.Reading.{strip_bom}
use Rattle.loc_spec_plane.specs.Lists.{numbers}
use Rattle.loc_spec_text.specs.{Bytes.lines, Bytes.result_and_then, Reading.reading, declared.Form.TheVariants.Lines}
use Rattle.loc_spec_text.proofs.{LineLaws.lines-cons, DigitLaws.decimal_digits}
use Rattle.loc_rings.specs.{Values.Feature, Layers.point_count, Layers.layer_points}
use Rattle.loc_csvform.specs.Layer.{Row, RowRead, features_from, is_row_line, layer_of, line_row, with_row}
use Rattle.loc_gen.specs.declared.kinds.Kind.{Kind}
use Rattle.loc_gen.specs.declared.kinds.Kind.TheVariants.{Grid, Nest, Strips}
use Rattle.loc_gen.specs.declared.features.Rectangle.{Rectangle}
use Rattle.loc_gen.specs.Layers.{feature_text, features, layer_text, limit_of, nested, square, start_of, strip}
use Rattle.loc_gen.proofs.Numbered.{count_is}
use Rattle.loc_trial.specs.Generated.{feature_of, generated}
use Rattle.loc_trial.proofs.Corners.{IsSmall, body, body_read, corners_text, decimal_short, feature_text_is}

module _ {X : Type 0} (P : X → Type 0) where
  pub all_append : (xs ys : List X) → AllByRecursion P xs → AllByRecursion P ys → AllByRecursion P (xs ++ ys)
  all_append [] ys first second = second
  all_append (x ∷ xs) ys first second = (first.0, all_append xs ys first.1 second)

  all_map : (f : ℕ → X) (a m : ℕ) → ((i : ℕ) → i < a + m → P (f i)) → AllByRecursion P (map f (range_with_len a m))
  all_map f a zero each = tt
  all_map f a (suc m) each = (each a (omega arith), all_map f (a + 1) m (λ i less. each i (omega (arith, less))))

  all_rows : (row : ℕ → List X) (a m : ℕ) → ((i : ℕ) → i < a + m → AllByRecursion P (row i)) → AllByRecursion P (flat_map row (range_with_len a m))
  all_rows row a zero each = tt
  all_rows row a (suc m) each = all_append (row a) (flat_map row (range_with_len (a + 1) m)) (each a (omega arith)) (all_rows row (a + 1) m (λ i less. each i (omega (arith, less))))

-- the rectangles of a layer within its limit are far within the grid
pub all_small : (kind : Kind) (n start : ℕ) → n ≤ limit_of kind → start < 65536 → AllByRecursion IsSmall (features kind n start)
all_small Grid n start few low = all_rows IsSmall (λ i. map (λ j. square (start + i) j) (numbers n)) 0 n
    (λ i less. all_map IsSmall (λ j. square (start + i) j) 0 n (λ j lower. record { left = omega arith; low = omega arith; right = omega arith; high = omega arith }))
all_small Nest n start few low = all_map IsSmall (λ i. nested n start i) 0 n (λ i less. record { left = omega arith; low = omega arith; right = omega arith; high = omega arith })
all_small Strips n start few low = all_map IsSmall (λ i. strip start i) 0 n
    (λ i less. (let round = mod_below (start + i * 40503) 65536 (omega arith) in record { left = omega (arith, round); low = omega arith; right = omega (arith, round); high = omega arith }))

-- and there are at most 131072
pub few_features : (kind : Kind) (n start : ℕ) → n ≤ limit_of kind → length (features kind n start) ≤ 131072
few_features Grid n start few = omega (arith, count_is Grid n start, mul-le n n 256 256 few few)
few_features Nest n start few = omega (arith, count_is Nest n start, few)
few_features Strips n start few = omega (arith, count_is Strips n start, few)

abbrev pub IsUnbroken : List ℕ → Type 0
IsUnbroken line = AllByRecursion (λ b. (b == 10) ≡ false) line

digits_unbroken : (ds : List ℕ) → list_all is_ascii_digit ds ≡ true → IsUnbroken ds
digits_unbroken [] digits = tt
digits_unbroken (c ∷ ds) digits =
    let two = and_parts (is_ascii_digit c) (list_all is_ascii_digit ds) digits in
    (ne_eqb c 10 (λ e. let none : is_ascii_digit 10 ≡ true = rw e at two.0 in cc none), digits_unbroken ds two.1)

pub decimal_unbroken : (n : ℕ) → n < 1048576 → IsUnbroken (decimal n)
decimal_unbroken n small = digits_unbroken (decimal n) (decimal_digits n (omega (arith, small)))

pair_unbroken : (x y : ℕ) (rest : List ℕ) → x < 1048576 → y < 1048576 → IsUnbroken rest → IsUnbroken (decimal x ++ 32 ∷ (decimal y ++ rest))
pair_unbroken x y rest small_x small_y more =
    let end = all_append (λ b. (b == 10) ≡ false) (decimal y) rest (digits_unbroken (decimal y) (decimal_digits y (omega (arith, small_y)))) more in
    all_append (λ b. (b == 10) ≡ false) (decimal x) (32 ∷ (decimal y ++ rest)) (digits_unbroken (decimal x) (decimal_digits x (omega (arith, small_x)))) (refl, end)

body_unbroken : (r : Rectangle) → IsSmall r → IsUnbroken (body r)
body_unbroken r small = all_append (λ b. (b == 10) ≡ false) (codes "POLYGON ((") (corners_text r)
    (refl, (refl, (refl, (refl, (refl, (refl, (refl, (refl, (refl, (refl, tt))))))))))
    (next r.left r.low _ small.left small.low
    (next r.right r.low _ small.right small.low
    (next r.right r.high _ small.right small.high
    (next r.left r.high _ small.left small.high
    (pair_unbroken r.left r.low (41 ∷ 41 ∷ []) small.left small.low (refl, (refl, tt)))))))
  where
    next : (x y : ℕ) (rest : List ℕ) → x < 1048576 → y < 1048576 → IsUnbroken rest → IsUnbroken (decimal x ++ 32 ∷ (decimal y ++ 44 ∷ 32 ∷ rest))
    next x y rest small_x small_y more = pair_unbroken x y (44 ∷ 32 ∷ rest) small_x small_y (refl, (refl, more))

-- the lines of a layer's text
lines_are : (rs : List Rectangle) → AllByRecursion IsSmall rs → lines (flat_map feature_text rs) ≡ map body rs
lines_are [] small = refl
lines_are (r ∷ rs) small =
    let rest = flat_map feature_text rs in
    ap (λ t. lines (t ++ rest)) (feature_text_is r) ∙ ap lines (append_assoc (body r) (10 ∷ []) rest) ∙ lines-cons (body r) rest (body_unbroken r small.0) ∙ ap (λ ls. body r ∷ ls) (lines_are rs small.1)

no_mark : (rs : List Rectangle) → strip_bom (flat_map feature_text rs) ≡ flat_map feature_text rs
unfolding strip_bom
no_mark [] = refl
no_mark (r ∷ rs) = refl

-- a line as a row
abbrev row_at : ℕ × Rectangle → RowRead
row_at p = Ok (record { number = p.0; id = decimal p.0; text = body p.1 })

rows_are : (k : ℕ) (rs : List Rectangle) → map line_row (filter is_row_line (enumerate_from k (map body rs))) ≡ map row_at (enumerate_from k rs)
rows_are k [] = refl
rows_are k (r ∷ rs) = ap (λ rows. row_at (k, r) ∷ rows) (rows_are (k + 1) rs)

-- the features of rows, behind those that were read
features_are : (k : ℕ) (rs : List Rectangle) (done : List Feature) → AllByRecursion IsSmall rs → length done + length rs ≤ 2 ^ 18 → layer_points done + length rs * 5 ≤ 2 ^ 20
    → features_from (reading 0) (map row_at (enumerate_from k rs)) done ≡ Ok (done ++ map feature_of (enumerate_from k rs))
features_are k [] done small few points = ap Ok (sym (append-nil done))
features_are k (r ∷ rs) done small few points =
    let row : Row = record { number = k; id = decimal k; text = body r } in
    let here = feature_of (k, r) in
    let rows = map row_at (enumerate_from (k + 1) rs) in
    let room : nat_le (2 ^ 18) (length done) ≡ false = lt-leb (2 ^ 18) (length done) (omega (arith, few)) in
    let five : point_count here ≡ 5 = refl in
    let within : nat_lt (2 ^ 20) (layer_points done + point_count here) ≡ false = false_from_ne_true (nat_lt (2 ^ 20) (layer_points done + point_count here)) (λ e. omega (arith, (Decides-ltb (2 ^ 20) (layer_points done + point_count here)).0 e, points, five)) in
    let next : layer_points (done ++ here ∷ []) ≡ layer_points done + 5 = sum_by_push point_count done here in
    ap (λ q. result_and_then (with_row done row q) (features_from (reading 0) rows)) (body_read r small.0)
    ∙ rw (room, within) (features_are (k + 1) rs (done ++ here ∷ []) small.1 (omega (arith, few, length-append done (here ∷ []))) (omega (arith, points, next)))
    ∙ ap Ok (append_assoc done (here ∷ []) (map feature_of (enumerate_from (k + 1) rs)))

-- a layer's text reads as its rectangles
pub layer_read : (kind : Kind) (n shift : ℕ) → n ≤ limit_of kind → layer_of Lines 0 (layer_text kind n shift) ≡ Ok (generated kind n shift)
unfolding layer_of
layer_read kind n shift within =
    let rs = features kind n (start_of shift) in
    let small = all_small kind n (start_of shift) within (mod_below shift 65536 (omega arith)) in
    let few = few_features kind n (start_of shift) within in
    ap (λ t. features_from (reading 0) (map line_row (filter is_row_line (enumerate_from 1 (lines t)))) []) (no_mark rs)
    ∙ ap (λ ls. features_from (reading 0) (map line_row (filter is_row_line (enumerate_from 1 ls))) []) (lines_are rs small)
    ∙ ap (λ rows. features_from (reading 0) rows []) (rows_are 1 rs)
    ∙ features_are 1 rs [] small (omega (arith, few)) (omega (arith, few))

-- the length of its text
pair_short : (x y : ℕ) (rest : List ℕ) → x < 1048576 → y < 1048576 → length (decimal x ++ 32 ∷ (decimal y ++ rest)) ≤ 41 + length rest
pair_short x y rest small_x small_y =
    omega (arith, length-append (decimal x) (32 ∷ (decimal y ++ rest)), length-append (decimal y) rest, decimal_short x (omega (arith, small_x)), decimal_short y (omega (arith, small_y)))

feature_short : (r : Rectangle) → IsSmall r → length (feature_text r) ≤ 256
feature_short r small =
    let rest4 = decimal r.left ++ 32 ∷ (decimal r.low ++ 41 ∷ 41 ∷ []) in
    let rest3 = decimal r.left ++ 32 ∷ (decimal r.high ++ 44 ∷ 32 ∷ rest4) in
    let rest2 = decimal r.right ++ 32 ∷ (decimal r.high ++ 44 ∷ 32 ∷ rest3) in
    let rest1 = decimal r.right ++ 32 ∷ (decimal r.low ++ 44 ∷ 32 ∷ rest2) in
    let e = pair_short r.left r.low (41 ∷ 41 ∷ []) small.left small.low in
    let d = pair_short r.left r.high (44 ∷ 32 ∷ rest4) small.left small.high in
    let c = pair_short r.right r.high (44 ∷ 32 ∷ rest3) small.right small.high in
    let b = pair_short r.right r.low (44 ∷ 32 ∷ rest2) small.right small.low in
    let a = pair_short r.left r.low (44 ∷ 32 ∷ rest1) small.left small.low in
    omega (arith, ap length (feature_text_is r), length-append (body r) (10 ∷ []), a, b, c, d, e)

text_short : (rs : List Rectangle) → AllByRecursion IsSmall rs → length (flat_map feature_text rs) ≤ length rs * 256
text_short [] small = omega arith
text_short (r ∷ rs) small = omega (arith, length-append (feature_text r) (flat_map feature_text rs), feature_short r small.0, text_short rs small.1)

pub layer_short : (kind : Kind) (n shift : ℕ) → n ≤ limit_of kind → length (layer_text kind n shift) ≤ 268435456
layer_short kind n shift within =
    let rs = features kind n (start_of shift) in
    omega (arith, text_short rs (all_small kind n (start_of shift) within (mod_below shift 65536 (omega arith))), few_features kind n (start_of shift) within)

length_numbered : (k : ℕ) (rs : List Rectangle) → length (map feature_of (enumerate_from k rs)) ≡ length rs
length_numbered k [] = refl
length_numbered k (r ∷ rs) = omega (arith, length_numbered (k + 1) rs)

pub few_generated : (kind : Kind) (n shift : ℕ) → n ≤ limit_of kind → length (generated kind n shift) ≤ 131072
few_generated kind n shift within = omega (arith, length_numbered 1 (features kind n (start_of shift)), few_features kind n (start_of shift) within)
