-- The points of a generated layer as a text of lines.
use Rattle.std.proofs.Common.{◌≡◌, ℕ, zero, suc, ◌+◌, ◌*◌, ◌%◌, ◌<◌, ◌≤◌, List, [], ◌∷◌, ◌++◌, length, map, append_assoc, append-nil, length-append, refl, ◌∙◌, ap, arith}
use Rattle.std.specs.{Fmt.decimal, List.flat_map, List.range_with_len}
use Rattle.std.proofs.{lemmas.List.Concat.flat_map-append, lemmas.Nat.mod_below}
use Rattle.loc_spec_plane.specs.Lists.{numbers}
use Rattle.loc_spec_text.specs.{Bytes.ended_lines, Points.ended}
use Rattle.loc_laws_order.proofs.Kept.{range_more}
use Rattle.loc_batch.specs.Kept.{IsUnbroken}
use Rattle.loc_batch.proofs.Cutting.{split_cons, unbroken_both}
use Rattle.loc_gen.specs.Layers.{start_of}
use Rattle.loc_trial.specs.Generated.{point_line, points_text}
use Rattle.loc_trial.proofs.{Corners.decimal_short, LayerTexts.decimal_unbroken}

-- the lines of one number more
pub one_more : (line : ℕ → List ℕ) (t : ℕ) → flat_map line (range_with_len 0 (t + 1)) ≡ flat_map line (range_with_len 0 t) ++ line t
one_more line t = ap (flat_map line) (range_more 0 t) ∙ flat_map-append line (range_with_len 0 t) ((0 + t) ∷ []) ∙ ap (λ l. flat_map line (range_with_len 0 t) ++ l) (append-nil (line (0 + t)) ∙ ap line (let is : 0 + t ≡ t = omega arith in is))

-- a range of lines, each ended, is cut into them again
ended_range : (line : ℕ → List ℕ) (a m : ℕ) → ((t : ℕ) → t < a + m → IsUnbroken (line t)) → ended_lines (flat_map (λ t. ended (line t)) (range_with_len a m)) ≡ map line (range_with_len a m)
ended_range line a zero each = refl
ended_range line a (suc m) each =
    let rest = flat_map (λ t. ended (line t)) (range_with_len (a + 1) m) in
    ap ended_lines (append_assoc (line a) (10 ∷ []) rest) ∙ ap (λ (p : List (List ℕ) × List ℕ). p.0) (split_cons (line a) rest (each a (omega arith)))
    ∙ ap (λ ls. line a ∷ ls) (ended_range line (a + 1) m (λ t less. each t (omega (arith, less))))

-- and its length is bounded by that of its lines
short_range : (line : ℕ → List ℕ) (k a m : ℕ) → ((t : ℕ) → t < a + m → length (line t) ≤ k) → length (flat_map line (range_with_len a m)) ≤ m * k
short_range line k a zero each = omega arith
short_range line k a (suc m) each =
    omega (arith, length-append (line a) (flat_map line (range_with_len (a + 1) m)), each a (omega arith), short_range line k (a + 1) m (λ t less. each t (omega (arith, less))))

module _ (n shift : ℕ) (few : n ≤ 131072) where
  x_low : (t : ℕ) → t < n → start_of shift + (t * 40503) % (4 * n) < 1048576
  x_low t less = omega (arith, few, mod_below shift 65536 (omega arith), mod_below (t * 40503) (4 * n) (omega (arith, less)))

  y_low : (t : ℕ) → t < n → (t * 25173) % (2 * n) < 1048576
  y_low t less = omega (arith, few, mod_below (t * 25173) (2 * n) (omega (arith, less)))

  line_unbroken : (t : ℕ) → t < 0 + n → IsUnbroken (point_line n shift t)
  line_unbroken t less =
      let x = start_of shift + (t * 40503) % (4 * n) in
      let y = (t * 25173) % (2 * n) in
      let front = unbroken_both (decimal x) (32 ∷ []) (decimal_unbroken x (x_low t (omega (arith, less)))) (refl, tt) in
      unbroken_both (decimal x ++ 32 ∷ []) (decimal y) front (decimal_unbroken y (y_low t (omega (arith, less))))

  line_short : (t : ℕ) → t < 0 + n → length (ended (point_line n shift t)) ≤ 42
  line_short t less =
      let x = start_of shift + (t * 40503) % (4 * n) in
      let y = (t * 25173) % (2 * n) in
      let a = x_low t (omega (arith, less)) in
      let b = y_low t (omega (arith, less)) in
      omega (arith, length-append (point_line n shift t) (10 ∷ []), length-append (decimal x ++ 32 ∷ []) (decimal y), length-append (decimal x) (32 ∷ []), decimal_short x (omega (arith, a)), decimal_short y (omega (arith, b)))

  -- the points' text is cut into the lines of the points
  pub points_cut : ended_lines (points_text n shift) ≡ map (point_line n shift) (numbers n)
  points_cut = ended_range (point_line n shift) 0 n line_unbroken

  -- and is short
  pub points_short : length (points_text n shift) ≤ 268435456
  points_short = omega (arith, few, short_range (λ t. ended (point_line n shift t)) 42 0 n line_short)
