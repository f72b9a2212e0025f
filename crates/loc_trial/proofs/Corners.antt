-- The texts of rectangles and of points, as they are read.
use Rattle.std.proofs.Common.{◌≡◌, ℕ, ◌+◌, ◌*◌, ◌%◌, ◌^◌, ◌<◌, ◌≤◌, ◌&&◌, true, List, [], ◌∷◌, ◌++◌, length, append_assoc, append-nil, length-append, Some, Ok, refl, sym, ◌∙◌, ap, ap₂, arith}
use Rattle.std.specs.{Prelude.codes, Prelude.pos, Prelude.option_and_then, Fmt.decimal}
use Rattle.std.proofs.{lemmas.Bool.le-leb, lemmas.Fmt.length-decimal-le, lemmas.Nat.mod_below}
use Rattle.loc_spec_plane.specs.Points.{point_at}
use Rattle.loc_spec_text.specs.Geometry.{Symbol, number, comma, open_mark, close_mark, word, symbols}
use Rattle.loc_spec_text.specs.Points.{is_grid_number, point_of, point_on_grid, point_texts}
use Rattle.loc_spec_text.specs.Reading.{reading}
use Rattle.loc_laws_order.proofs.Sides.{same_point_refl}
use Rattle.loc_spec_text.specs.Reader.{geometry_of, tree_of, list_at, enclosed_at, point_at as text_point_at}
use Rattle.loc_gen.specs.declared.features.Rectangle.{Rectangle}
use Rattle.loc_gen.specs.Layers.{corner_text, feature_text, point_number, start_of}
use Rattle.loc_trial.specs.Generated.{point_line, ring_of}
use Rattle.loc_trial.proofs.Decimals.{decimal_read, pair_first}

-- a number of at most so many digits
pub decimal_short : (n : ℕ) → n < 2 ^ 64 → length (decimal n) ≤ 20
decimal_short n small = length-decimal-le 20 n (omega arith) (omega arith) (omega arith)

-- two decimals read as the point
pub corner_read : (x y : ℕ) → x ≤ 10 ^ 18 → y ≤ 10 ^ 18 → point_of 0 (corner_text x y) ≡ Some (point_at (pos x) (pos y))
corner_read x y small_x small_y =
    let is : corner_text x y ≡ decimal x ++ 32 ∷ (decimal y ++ []) = append_assoc (decimal x) (32 ∷ []) (decimal y) ∙ ap (λ t. decimal x ++ 32 ∷ t) (sym (append-nil (decimal y))) in
    let cut = pair_first x y [] (omega arith) (omega arith) refl in
    let short : length (corner_text x y) ≤ 4096 = omega (arith, decimal_short x (omega arith), decimal_short y (omega arith), length-append (decimal x ++ 32 ∷ []) (decimal y), length-append (decimal x) (32 ∷ [])) in
    let first = decimal_read x small_x in
    let second = decimal_read y small_y in
    let on : (is_grid_number 0 (decimal x) && is_grid_number 0 (decimal y)) ≡ true = simp (first.on_the_grid, first.within, second.on_the_grid, second.within) in
    rw (le-leb (length (corner_text x y)) 4096 short) (ap (λ ps. option_and_then (point_on_grid 0) (point_texts ps)) (ap symbols is ∙ cut) ∙ rw on (ap₂ (λ a b. Some (point_at a b)) first.value second.value))

-- the line of a point reads as the point
pub point_read : (n shift t : ℕ) → t < n → n ≤ 131072 → point_of 0 (point_line n shift t) ≡ Some (point_number n shift t)
point_read n shift t less few =
    let a = mod_below shift 65536 (omega arith) in
    let b = mod_below (t * 40503) (4 * n) (omega (arith, less)) in
    let c = mod_below (t * 25173) (2 * n) (omega (arith, less)) in
    corner_read (start_of shift + (t * 40503) % (4 * n)) ((t * 25173) % (2 * n)) (omega (arith, a, b, few)) (omega (arith, c, few))

-- the text of a rectangle as it is cut: from its front on
abbrev pub corners_text : Rectangle → List ℕ
corners_text r = decimal r.left ++ 32 ∷ (decimal r.low ++ 44 ∷ 32 ∷ (decimal r.right ++ 32 ∷ (decimal r.low ++ 44 ∷ 32 ∷ (decimal r.right ++ 32 ∷ (decimal r.high ++ 44 ∷ 32 ∷ (decimal r.left ++ 32 ∷ (decimal r.high ++ 44 ∷ 32 ∷ (decimal r.left ++ 32 ∷ (decimal r.low ++ 41 ∷ 41 ∷ [])))))))))

abbrev pub body : Rectangle → List ℕ
body r = codes "POLYGON ((" ++ corners_text r

pub feature_text_is : (r : Rectangle) → feature_text r ≡ body r ++ 10 ∷ []
feature_text_is r = simp append_assoc

-- numbers that are far within the grid
pub record IsSmall (r : Rectangle) : Type 0 where
  pub left : r.left < 1048576
  pub low : r.low < 1048576
  pub right : r.right < 1048576
  pub high : r.high < 1048576

-- the symbols of a rectangle's corners
pub corners_cut : (r : Rectangle) → IsSmall r → symbols (corners_text r) ≡
    number (decimal r.left) ∷ number (decimal r.low) ∷ comma ∷ number (decimal r.right) ∷ number (decimal r.low) ∷ comma ∷ number (decimal r.right) ∷ number (decimal r.high) ∷ comma
    ∷ number (decimal r.left) ∷ number (decimal r.high) ∷ comma ∷ number (decimal r.left) ∷ number (decimal r.low) ∷ close_mark ∷ close_mark ∷ []
corners_cut r small =
    let left : r.left < 2 ^ 64 = omega (arith, small.left) in
    let low : r.low < 2 ^ 64 = omega (arith, small.low) in
    let right : r.right < 2 ^ 64 = omega (arith, small.right) in
    let high : r.high < 2 ^ 64 = omega (arith, small.high) in
    let two = λ (x y : ℕ) (ps : List Symbol). number (decimal x) ∷ number (decimal y) ∷ comma ∷ ps in
    let rest4 = decimal r.left ++ 32 ∷ (decimal r.low ++ 41 ∷ 41 ∷ []) in
    let rest3 = decimal r.left ++ 32 ∷ (decimal r.high ++ 44 ∷ 32 ∷ rest4) in
    let rest2 = decimal r.right ++ 32 ∷ (decimal r.high ++ 44 ∷ 32 ∷ rest3) in
    let rest1 = decimal r.right ++ 32 ∷ (decimal r.low ++ 44 ∷ 32 ∷ rest2) in
    pair_first r.left r.low (44 ∷ 32 ∷ rest1) left low refl
    ∙ ap (two r.left r.low) (pair_first r.right r.low (44 ∷ 32 ∷ rest2) right low refl
    ∙ ap (two r.right r.low) (pair_first r.right r.high (44 ∷ 32 ∷ rest3) right high refl
    ∙ ap (two r.right r.high) (pair_first r.left r.high (44 ∷ 32 ∷ rest4) left high refl
    ∙ ap (two r.left r.high) (pair_first r.left r.low (41 ∷ 41 ∷ []) left low refl))))

pub body_cut : (r : Rectangle) → IsSmall r → symbols (body r) ≡ word (codes "POLYGON") ∷ open_mark ∷ open_mark ∷ symbols (corners_text r)
body_cut r small = refl

-- the tree of a rectangle's text
pub tree_of_body : (r : Rectangle) → IsSmall r → geometry_of (body r) ≡ Some (((
    (decimal r.left, decimal r.low) ∷ (decimal r.right, decimal r.low) ∷ (decimal r.right, decimal r.high) ∷ (decimal r.left, decimal r.high) ∷ (decimal r.left, decimal r.low) ∷ [])
    ∷ []) ∷ [])
unfolding geometry_of
tree_of_body r small = ap (tree_of (list_at (enclosed_at text_point_at))) (body_cut r small ∙ ap (λ ps. word (codes "POLYGON") ∷ open_mark ∷ open_mark ∷ ps) (corners_cut r small))

-- the text of a rectangle reads as its ring
pub body_read : (r : Rectangle) → IsSmall r → reading 0 (body r) ≡ Ok ((ring_of r ∷ []) ∷ [])
unfolding reading
body_read r small =
    let left = decimal_read r.left (omega (arith, small.left)) in
    let low = decimal_read r.low (omega (arith, small.low)) in
    let right = decimal_read r.right (omega (arith, small.right)) in
    let high = decimal_read r.high (omega (arith, small.high)) in
    rw (tree_of_body r small) (
    simp (left.on_the_grid, left.within, low.on_the_grid, low.within, right.on_the_grid, right.within, high.on_the_grid, high.within, left.value, low.value, right.value, high.value, same_point_refl (point_at (pos r.left) (pos r.low))))
