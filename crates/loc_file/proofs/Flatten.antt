-- Marks that rise are the marks of the edges one behind another.
use Rattle.std.proofs.Common.{◌≡◌, ℕ, zero, suc, ◌+◌, ◌<◌, ◌≤◌, true, List, [], ◌∷◌, ◌++◌, length, map, get_or, refl, sym, ◌∙◌, ap, subst, arith, inl, inr}
use Rattle.std.specs.Prelude.{Some, None, ◌≢◌, ◌==◌, filter}
use Rattle.std.specs.List.{range_with_len, AllByRecursion}
use Rattle.std.proofs.lemmas.Bool.{cases_eq, cond-false, cond-true, eq-eqb, ne_eqb}
use Rattle.loc_spec_plane.specs.{Lists.is_rising, Lists.numbers, declared.Mark.Mark}
use Rattle.loc_spec_index.specs.IndexFile.{mark_row_before}
use Rattle.loc_laws_index.proofs.RightRows.{Chain, by-first, rising-chain}
use Rattle.loc_edges.specs.Ending.{row_of}
use Rattle.loc_file.specs.Keeping.{marks_from}

abbrev Keyed : Type 0
Keyed = List (ℕ × Mark)

-- the keys are in order from k on
abbrev From : ℕ → Keyed → Type 0
From k [] = Unit {0}
From k (m ∷ ms) = (k ≤ m.0) × From m.0 ms

abbrev Below : ℕ → Keyed → Type 0
Below k ms = AllByRecursion (λ (m : ℕ × Mark). m.0 < k) ms

-- a first mark of another number is in no other row
other-row : (m : ℕ × Mark) (ms : Keyed) (j : ℕ) → m.0 ≢ j → row_of (m ∷ ms) j ≡ row_of ms j
other-row m ms j other = ap (map (λ (p : ℕ × Mark). p.1)) (cond-false (m.0 == j) (m ∷ filter (λ (p : ℕ × Mark). p.0 == j) ms) (filter (λ (p : ℕ × Mark). p.0 == j) ms) (ne_eqb m.0 j other))

other-rows : (m : ℕ × Mark) (ms : Keyed) (j n : ℕ) → m.0 < j → map (row_of (m ∷ ms)) (range_with_len j n) ≡ map (row_of ms) (range_with_len j n)
other-rows m ms j zero less = refl
other-rows m ms j (suc n) less =
    ap (λ r. r ∷ map (row_of (m ∷ ms)) (range_with_len (j + 1) n)) (other-row m ms j (λ same. omega (arith, same, less))) ∙ ap (λ l. row_of ms j ∷ l) (other-rows m ms (j + 1) n (omega (arith, less)))

-- no mark has a number before the first
no-row : (k : ℕ) (ms : Keyed) → From (k + 1) ms → row_of ms k ≡ []
no-row k [] from = refl
no-row k (m ∷ ms) from = let first = from.0 in other-row m ms k (λ same. omega (arith, same, first)) ∙ no-row k ms (later m.0 ms first from.1)
  where
    later : (j : ℕ) (ms : Keyed) → k + 1 ≤ j → From j ms → From (k + 1) ms
    later j [] le from = tt
    later j (m ∷ ms) le from = (let first = from.0 in omega (arith, le, first), from.1)

-- the rows from one on, where those behind it are told
peeled : (n k : ℕ) → ((ms : Keyed) → From (k + 1) ms → Below ((k + 1) + n) ms → marks_from (k + 1) (map (row_of ms) (range_with_len (k + 1) n)) ≡ ms)
    → (ms : Keyed) → From k ms → Below (k + suc n) ms → marks_from k (map (row_of ms) (range_with_len k (suc n))) ≡ ms
peeled n k behind [] from below = behind [] tt tt
peeled n k behind (m ∷ ms) from below = elim (cases_eq m.0 k) [
  | inl same ↦
      (let own = cond-true (m.0 == k) (m ∷ filter (λ (p : ℕ × Mark). p.0 == k) ms) (filter (λ (p : ℕ × Mark). p.0 == k) ms) (eq-eqb m.0 k same) in
      ap (λ (row : Keyed). map (λ (x : Mark). (k, x)) (map (λ (p : ℕ × Mark). p.1) row) ++ marks_from (k + 1) (map (row_of (m ∷ ms)) (range_with_len (k + 1) n))) own
      ∙ (ap (λ l. (k, m.1) ∷ (map (λ (x : Mark). (k, x)) (row_of ms k) ++ marks_from (k + 1) l)) (other-rows m ms (k + 1) n (omega (arith, same)))
      ∙ (ap (λ l. (k, m.1) ∷ l) (peeled n k behind ms (subst (λ j. From j ms) same from.1) below.1) ∙ ap (λ j. (j, m.1) ∷ ms) (sym same))))
  | inr other ↦
      (let le = from.0 in
      let ne : m.0 ≢ k = other in
      let next : k + suc n ≡ (k + 1) + n = omega arith in
      let rest : From (k + 1) (m ∷ ms) = (omega (arith, le, ne), from.1) in
      ap (λ row. map (λ (x : Mark). (k, x)) row ++ marks_from (k + 1) (map (row_of (m ∷ ms)) (range_with_len (k + 1) n))) (no-row k (m ∷ ms) rest) ∙ behind (m ∷ ms) rest (subst (λ j. Below j (m ∷ ms)) next below))
]

flat : (n k : ℕ) (ms : Keyed) → From k ms → Below (k + n) ms → marks_from k (map (row_of ms) (range_with_len k n)) ≡ ms
flat zero k [] from below = refl
flat zero k (m ∷ ms) from below = absurd (let first = from.0 in let last = below.0 in omega (arith, first, last))
flat (suc n) k ms from below = peeled n k (flat n (k + 1)) ms from below

-- ---- from the order of a file

in-order : (m : ℕ × Mark) (ms : Keyed) → Chain mark_row_before (Some m) ms → From m.0 ms
in-order m [] c = tt
in-order m (n ∷ ms) c = (elim (by-first m.0 n.0 _ c.0) [ inl less ↦ omega (arith, less) | inr same ↦ (let e = same.0 in omega (arith, e)) ], in-order n ms c.1)

from-first : (ms : Keyed) → Chain mark_row_before None ms → From 0 ms
from-first [] c = tt
from-first (m ∷ ms) c = (omega arith, in-order m ms c.1)

all-below : (n : ℕ) (ms : Keyed) → ((i : ℕ) (d : ℕ × Mark) → i < length ms → (get_or ms i d).0 < n) → Below n ms
all-below n [] h = tt
all-below n (m ∷ ms) h = (h 0 m (omega arith), all-below n ms (λ i d lt. h (suc i) d (omega (arith, lt))))

pub marks-flat : (n : ℕ) (ms : Keyed) → is_rising mark_row_before ms ≡ true → ((i : ℕ) (d : ℕ × Mark) → i < length ms → (get_or ms i d).0 < n) → marks_from 0 (map (row_of ms) (numbers n)) ≡ ms
marks-flat n ms rise below = flat n 0 ms (from-first ms (rising-chain mark_row_before ms rise)) (let all : 0 + n ≡ n = omega arith in subst (λ j. Below j ms) (sym all) (all-below n ms below))
