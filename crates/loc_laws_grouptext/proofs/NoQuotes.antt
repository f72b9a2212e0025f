-- The geometry of a group on the grid has no double quote: it is made of letters, spaces, commas, parentheses, signs, points and digits.
use Rattle.std.proofs.Common.{◌≡◌, ℕ, zero, suc, ◌+◌, ◌/◌, ◌%◌, ◌^◌, ◌<◌, ◌≤◌, Bool, true, false, List, [], ◌∷◌, ◌++◌, map, flat_map, ℤ, pos, negsuc, refl, ◌∙◌, arith}
use Rattle.std.specs.Prelude.{codes, ◌==◌, if◌then◌else◌, unsigned_abs, int_lt}
use Rattle.std.specs.{List.list_all, List.list_any, List.AllByRecursion, Char.is_ascii_digit, Fmt.decimal}
use Rattle.std.proofs.{Math.Nat.div-le_self, lemmas.Bool.and_parts, lemmas.Bool.or_from, lemmas.Bool.ne_eqb}
use Rattle.std.proofs.{lemmas.Fmt.decimal_is_IsNumeral, lemmas.Int.ints, lemmas.List.Folds.list_any-append}
use Rattle.std.proofs.lemmas.Str.Parse.{numerals_by_value}
use Rattle.loc_spec_text.specs.Bytes.{Text}
use Rattle.loc_spec_text.specs.Points.{fraction_text, grid_text, padded_digits, position_text}
use Rattle.loc_spec_text.proofs.DigitLaws.{ascii_digits, digit_range}
use Rattle.loc_spec_plane.specs.{Points.Point, Points.OnGrid, Points.IsGridPoint, Rings.Ring, Rings.Rings}
use Rattle.loc_spec_groups.specs.GroupTexts.{enclosed, listed, polygon_text, polygons_text, ring_text}
use Rattle.loc_laws_grouptext.specs.Laws.{AreOnGrid, HasNoQuotes}

both : (a b : Text) → HasNoQuotes a → HasNoQuotes b → HasNoQuotes (a ++ b)
both a b first second = list_any-append (λ c. c == 34) a b ∙ or_from (list_any (λ c. c == 34) a) (list_any (λ c. c == 34) b) first second

digits_bare : (ds : Text) → list_all is_ascii_digit ds ≡ true → HasNoQuotes ds
digits_bare [] digits = refl
digits_bare (c ∷ ds) digits =
    let parts = and_parts (is_ascii_digit c) (list_all is_ascii_digit ds) digits in
    let range = digit_range c parts.0 in
    or_from (c == 34) (list_any (λ b. b == 34) ds) (ne_eqb c 34 (λ same. omega (arith, range.0, same))) (digits_bare ds parts.1)

decimal_bare : (n : ℕ) → n < 2 ^ 64 → HasNoQuotes (decimal n)
decimal_bare n small = digits_bare (decimal n) ((numerals_by_value (λ ds. list_all is_ascii_digit ds ≡ true) ascii_digits).from (decimal n) (decimal_is_IsNumeral n small).0.1)

padded_bare : (k n : ℕ) → HasNoQuotes (padded_digits k n)
padded_bare zero n = refl
padded_bare (suc k) n = both (padded_digits k (n / 10)) ((48 + n % 10) ∷ []) (padded_bare k (n / 10)) (or_from ((48 + n % 10) == 34) false (ne_eqb (48 + n % 10) 34 (λ same. omega (arith, same))) refl)

fraction_bare : (scale n : ℕ) → HasNoQuotes (fraction_text scale n)
fraction_bare zero n = refl
fraction_bare (suc k) n = padded_bare (suc k) n

-- a grid value is small
pub small_abs : (v : ℤ) → OnGrid v → unsigned_abs v ≤ 1000000000000000000
small_abs (pos n) on = omega (arith, ints, on.1)
small_abs (negsuc n) on = omega (arith, ints, on.0)

below_whole : (n d : ℕ) → n / d ≤ n
below_whole n d = div-le_self n d

value_bare : (scale : ℕ) (v : ℤ) → OnGrid v → HasNoQuotes (grid_text scale v)
value_bare scale v on =
    let small = small_abs v on in
    let less = below_whole (unsigned_abs v) (10 ^ scale) in
    let sign : Text = if int_lt v (pos 0) then codes "-" else [] in
    both ((if int_lt v (pos 0) then codes "-" else []) ++ decimal (unsigned_abs v / 10 ^ scale)) (fraction_text scale (unsigned_abs v % 10 ^ scale))
    (both (if int_lt v (pos 0) then codes "-" else []) (decimal (unsigned_abs v / 10 ^ scale)) (sign_bare (int_lt v (pos 0))) (decimal_bare (unsigned_abs v / 10 ^ scale) (omega (arith, small, less))))
    (fraction_bare scale (unsigned_abs v % 10 ^ scale))
  where
    sign_bare : (b : Bool) → HasNoQuotes (if b then codes "-" else [])
    sign_bare true = refl
    sign_bare false = refl

position_bare : (scale : ℕ) (p : Point) → IsGridPoint p → HasNoQuotes (position_text scale p)
position_bare scale p on = both (grid_text scale p.x) (32 ∷ grid_text scale p.y) (value_bare scale p.x on.0) (value_bare scale p.y on.1)

-- ---- lists
later_bare : (texts : List Text) → AllByRecursion HasNoQuotes texts → HasNoQuotes (flat_map (λ later. codes ", " ++ later) texts)
later_bare [] each = refl
later_bare (text ∷ texts) each = both (codes ", " ++ text) (flat_map (λ later. codes ", " ++ later) texts) each.0 (later_bare texts each.1)

listed_bare : (texts : List Text) → AllByRecursion HasNoQuotes texts → HasNoQuotes (listed texts)
listed_bare [] each = refl
listed_bare (text ∷ texts) each = both text (flat_map (λ later. codes ", " ++ later) texts) each.0 (later_bare texts each.1)

enclosed_bare : (texts : List Text) → AllByRecursion HasNoQuotes texts → HasNoQuotes (enclosed texts)
enclosed_bare texts each = both (codes "(" ++ listed texts) (codes ")") (listed_bare texts each) refl

map_bare : {X : Type 0} (P : X → Type 0) (f : X → Text) → ((x : X) → P x → HasNoQuotes (f x)) → (xs : List X) → AllByRecursion P xs → AllByRecursion HasNoQuotes (map f xs)
map_bare P f bare [] each = tt
map_bare P f bare (x ∷ xs) each = (bare x each.0, map_bare P f bare xs each.1)

one_more : (texts : List Text) (text : Text) → AllByRecursion HasNoQuotes texts → HasNoQuotes text → AllByRecursion HasNoQuotes (texts ++ (text ∷ []))
one_more [] text each last = (last, tt)
one_more (first ∷ texts) text each last = (each.0, one_more texts text each.1 last)

ring_bare : (scale : ℕ) (ring : Ring) → AllByRecursion IsGridPoint ring → HasNoQuotes (ring_text scale ring)
ring_bare scale [] on = refl
ring_bare scale (p ∷ ps) on = enclosed_bare (map (position_text scale) (p ∷ ps) ++ (position_text scale p ∷ [])) (one_more (map (position_text scale) (p ∷ ps)) (position_text scale p) (map_bare IsGridPoint (position_text scale) (position_bare scale) (p ∷ ps) on) (position_bare scale p on.0))

polygon_bare : (scale : ℕ) (rings : Rings) → AllByRecursion (AllByRecursion IsGridPoint) rings → HasNoQuotes (polygon_text scale rings)
polygon_bare scale rings on = enclosed_bare (map (ring_text scale) rings) (map_bare (AllByRecursion IsGridPoint) (ring_text scale) (ring_bare scale) rings on)

pub polygons_bare : (scale : ℕ) (polygons : List Rings) → AreOnGrid polygons → HasNoQuotes (codes "MULTIPOLYGON " ++ polygons_text scale polygons)
polygons_bare scale [] on = refl
polygons_bare scale (rings ∷ polygons) on = both (codes "MULTIPOLYGON ") (polygons_text scale (rings ∷ polygons)) refl (enclosed_bare (map (polygon_text scale) (rings ∷ polygons)) (map_bare (AllByRecursion (AllByRecursion IsGridPoint)) (polygon_text scale) (polygon_bare scale) (rings ∷ polygons) on))
