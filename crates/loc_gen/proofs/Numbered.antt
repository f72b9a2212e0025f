-- Features by their numbers.
use Rattle.std.proofs.Common.{◌≡◌, ℕ, zero, suc, ◌+◌, ◌-◌, ◌*◌, ◌/◌, ◌%◌, ◌<◌, List, ◌++◌, length, get_or, map, sym, ◌∙◌, ap, arith, zero-add, length-append}
use Rattle.std.proofs.lemmas.List.{get_or_append_left, get_or-append_right}
use Rattle.std.proofs.lemmas.List.FromFn.{get_or-map-range_with_len, length-map-range_with_len}
use Rattle.std.proofs.lemmas.Nat.{div-add-mod', div_below, mod_below}
use Rattle.std.specs.List.{flat_map, range_with_len}
use Rattle.loc_spec_plane.specs.Lists.{numbers}
use Rattle.loc_gen.specs.declared.kinds.Kind.{Kind}
use Rattle.loc_gen.specs.declared.kinds.Kind.TheVariants.{Grid, Nest, Strips}
use Rattle.loc_gen.specs.declared.features.Rectangle.{Rectangle}
use Rattle.loc_gen.specs.Layers.{feature_count, features, nested, square, strip}

-- Rows of w members each, one behind the other, from row a on.
module _ {X : Type 0} (row : ℕ → List X) (w : ℕ) (even : (i : ℕ) → length (row i) ≡ w) where
  pub length_rows : (h a : ℕ) → length (flat_map row (range_with_len a h)) ≡ h * w
  length_rows zero a = omega arith
  length_rows (suc h) a = omega (arith, length-append (row a) (flat_map row (range_with_len (a + 1) h)), even a, length_rows h (a + 1))

  -- the member at place j of row i
  pub at_row : (h a i j : ℕ) (d : X) → i < h → j < w → get_or (flat_map row (range_with_len a h)) (i * w + j) d ≡ get_or (row (a + i)) j d
  at_row zero a i j d less small = absurd (omega arith)
  at_row (suc h) a zero j d less small =
      let rest = flat_map row (range_with_len (a + 1) h) in
      let first : zero * w + j ≡ j = omega arith in
      let here : a ≡ a + zero = omega arith in
      ap (λ k. get_or (row a ++ rest) k d) first ∙ get_or_append_left (row a) rest d j (omega (arith, even a)) ∙ ap (λ k. get_or (row k) j d) here
  at_row (suc h) a (suc i) j d less small =
      let rest = flat_map row (range_with_len (a + 1) h) in
      let less_one : suc i * w + j - w ≡ i * w + j = omega arith in
      let next : a + 1 + i ≡ a + suc i = omega arith in
      get_or-append_right (row a) rest w (suc i * w + j) d (even a) (omega arith)
      ∙ ap (λ k. get_or rest k d) less_one ∙ at_row h (a + 1) i j d (omega arith) small ∙ ap (λ k. get_or (row k) j d) next

-- a square has a row
pub some_row : (n k : ℕ) → k < n * n → 0 < n
some_row zero k h = absurd (omega arith)
some_row (suc n) k h = omega arith

-- there are as many features as are counted
pub count_is : (kind : Kind) (n start : ℕ) → length (features kind n start) ≡ feature_count kind n
count_is Grid n start = length_rows (λ i. map (λ j. square (start + i) j) (numbers n)) n (λ i. length-map-range_with_len (λ j. square (start + i) j) 0 n) n 0
count_is Nest n start = length-map-range_with_len (λ i. nested n start i) 0 n
count_is Strips n start = length-map-range_with_len (λ i. strip start i) 0 n

-- square k of a grid is in column k / n and row k % n
pub grid_at : (n start k : ℕ) (d : Rectangle) → k < n * n → get_or (features Grid n start) k d ≡ square (start + k / n) (k % n)
grid_at n start k d h =
    let some : 0 < n = some_row n k h in
    ap (λ m. get_or (features Grid n start) m d) (sym (div-add-mod' k n))
    ∙ at_row (λ i. map (λ j. square (start + i) j) (numbers n)) n (λ i. length-map-range_with_len (λ j. square (start + i) j) 0 n) n 0 (k / n) (k % n) d (div_below k n n some h) (mod_below k n some)
    ∙ get_or-map-range_with_len (λ j. square (start + (0 + k / n)) j) 0 n (k % n) (k % n) d (mod_below k n some) (zero-add (k % n))
    ∙ ap (λ i. square (start + i) (k % n)) (zero-add (k / n))

pub nest_at : (n start k : ℕ) (d : Rectangle) → k < n → get_or (features Nest n start) k d ≡ nested n start k
nest_at n start k d h = get_or-map-range_with_len (λ i. nested n start i) 0 n k k d h (zero-add k)

pub strip_at : (n start k : ℕ) (d : Rectangle) → k < n → get_or (features Strips n start) k d ≡ strip start k
strip_at n start k d h = get_or-map-range_with_len (λ i. strip start i) 0 n k k d h (zero-add k)
