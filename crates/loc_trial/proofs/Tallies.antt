-- The counts of a tally are those of its answers.
use Rattle.std.proofs.Common.{◌≡◌, ℕ, zero, suc, ◌+◌, ◌-◌, ◌*◌, ◌^◌, ◌≤◌, Bool, true, false, cond, List, [], ◌∷◌, length, map, refl, sym, ◌∙◌, arith}
use Rattle.std.specs.{Prelude.min, List.count_by, List.range_with_len, List.sum_by}
use Rattle.std.proofs.lemmas.List.Sums.{length-filter, sum_by-cons}
use Rattle.loc_spec_text.specs.Points.{Answer, on_corner, on_border, in_face, no_point}
use Rattle.loc_batch.specs.{Batches.no_tally, Streams.tally_of, Streams.with_one, declared.tally.Tally.Tally}
use Rattle.loc_trial.specs.Trials.{counts_text, covering_ids, is_border, is_corner, is_face, tally_text, touching_ids}

-- a count of a tally to which each answer adds its weight, up to the last value
module _ (count : Tally → ℕ) (weight : Answer → ℕ) (adds : (a : Answer) (t : Tally) → count t ≤ 2 ^ 64 - 1 → count (with_one a t) ≡ min (count t + weight a) (2 ^ 64 - 1)) where
  sums : (answers : List Answer) (t : Tally) → count t ≤ 2 ^ 64 - 1 → count (tally_of t answers) ≡ min (count t + sum_by weight answers) (2 ^ 64 - 1)
  sums [] t small = omega (arith, small)
  sums (a ∷ answers) t small =
      let one = adds a t small in
      omega (arith, sums answers (with_one a t) (omega (arith, one)), one, sum_by-cons weight a answers, small)

  -- so from nothing it is their sum, where that is below
  pub sum_is : (answers : List Answer) → count no_tally ≡ 0 → sum_by weight answers ≤ 2 ^ 40 → count (tally_of no_tally answers) ≡ sum_by weight answers
  sum_is answers none few = omega (arith, sums answers no_tally (omega (arith, none)), none, few)

abbrev one_if : (Answer → Bool) → Answer → ℕ
one_if test a = cond (test a) 1 0

corners_add : (a : Answer) (t : Tally) → t.corners ≤ 2 ^ 64 - 1 → (with_one a t).corners ≡ min (t.corners + one_if is_corner a) (2 ^ 64 - 1)
corners_add (on_corner n on covering) t small = refl
corners_add (on_border n on covering) t small = omega (arith, small)
corners_add (in_face face covering) t small = omega (arith, small)
corners_add no_point t small = omega (arith, small)

borders_add : (a : Answer) (t : Tally) → t.borders ≤ 2 ^ 64 - 1 → (with_one a t).borders ≡ min (t.borders + one_if is_border a) (2 ^ 64 - 1)
borders_add (on_corner n on covering) t small = omega (arith, small)
borders_add (on_border n on covering) t small = refl
borders_add (in_face face covering) t small = omega (arith, small)
borders_add no_point t small = omega (arith, small)

faces_add : (a : Answer) (t : Tally) → t.faces ≤ 2 ^ 64 - 1 → (with_one a t).faces ≡ min (t.faces + one_if is_face a) (2 ^ 64 - 1)
faces_add (on_corner n on covering) t small = omega (arith, small)
faces_add (on_border n on covering) t small = omega (arith, small)
faces_add (in_face face covering) t small = refl
faces_add no_point t small = omega (arith, small)

on_add : (a : Answer) (t : Tally) → t.on ≤ 2 ^ 64 - 1 → (with_one a t).on ≡ min (t.on + length (touching_ids a)) (2 ^ 64 - 1)
on_add (on_corner n on covering) t small = refl
on_add (on_border n on covering) t small = refl
on_add (in_face face covering) t small = omega (arith, small)
on_add no_point t small = omega (arith, small)

covering_add : (a : Answer) (t : Tally) → t.covering ≤ 2 ^ 64 - 1 → (with_one a t).covering ≡ min (t.covering + length (covering_ids a)) (2 ^ 64 - 1)
covering_add (on_corner n on covering) t small = refl
covering_add (on_border n on covering) t small = refl
covering_add (in_face face covering) t small = refl
covering_add no_point t small = omega (arith, small)

-- answers that are few, and whose lists are short
pub record AreFew (answers : List Answer) : Type 0 where
  pub few : length answers ≤ 131072
  pub touching : sum_by (λ a. length (touching_ids a)) answers ≤ 2 ^ 40
  pub covering : sum_by (λ a. length (covering_ids a)) answers ≤ 2 ^ 40

counted_few : (test : Answer → Bool) (answers : List Answer) → count_by test answers ≤ length answers
counted_few test [] = omega arith
counted_few test (a ∷ answers) = omega (arith, sum_by-cons (one_if test) a answers, counted_few test answers, at_most (test a))
  where
    at_most : (b : Bool) → cond b 1 0 ≤ 1
    at_most true = omega arith
    at_most false = omega arith

-- the counts that are written are those of the answers
pub tally_is : (answers : List Answer) → AreFew answers → tally_text (tally_of no_tally answers) ≡ counts_text answers
tally_is answers few =
    let corners = sum_is (λ (t : Tally). t.corners) (one_if is_corner) corners_add answers refl (omega (arith, few.few, counted_few is_corner answers)) ∙ sym (length-filter is_corner answers) in
    let borders = sum_is (λ (t : Tally). t.borders) (one_if is_border) borders_add answers refl (omega (arith, few.few, counted_few is_border answers)) ∙ sym (length-filter is_border answers) in
    let faces = sum_is (λ (t : Tally). t.faces) (one_if is_face) faces_add answers refl (omega (arith, few.few, counted_few is_face answers)) ∙ sym (length-filter is_face answers) in
    let on = sum_is (λ (t : Tally). t.on) (λ a. length (touching_ids a)) on_add answers refl few.touching in
    let covering = sum_is (λ (t : Tally). t.covering) (λ a. length (covering_ids a)) covering_add answers refl few.covering in
    rw (corners, borders, faces, on, covering) refl

-- answers to a range of points, of which each list is short
pub range_few : (weight : Answer → ℕ) (at : ℕ → Answer) (k a m : ℕ) → ((t : ℕ) → weight (at t) ≤ k) → sum_by weight (map at (range_with_len a m)) ≤ m * k
range_few weight at k a zero each = omega arith
range_few weight at k a (suc m) each = omega (arith, sum_by-cons weight (at a) (map at (range_with_len (a + 1) m)), each a, range_few weight at k (a + 1) m each)
