-- Where the new rows stand behind the old ones, and what each of them is.
use Rattle.std.proofs.Common.{◌≡◌, ℕ, zero, suc, ◌+◌, ◌-◌, ◌<◌, ◌≤◌, Bool, true, false, List, [], ◌∷◌, ◌++◌, length, refl, ◌∙◌, ap, ◌⊎◌, inl, inr, arith}
use Rattle.std.specs.Prelude.{if◌then◌else◌}
use Rattle.std.proofs.{lemmas.Bool.cases_lt, lemmas.List.length-append, lemmas.List.get_or-append-add}
use Rattle.std.proofs.Math.ListN.{get_or-append}
use Rattle.std.proofs.lemmas.List.FromFn.{length-map-range_with_len, get_or-map-range_with_len}
use Rattle.loc_spec_plane.specs.declared.Trap.{Trap}
use Rattle.loc_laws_traps.specs.Sets.{behind_left, before_right, part_before, part_behind}
use Rattle.loc_traps.specs.{declared.walk.Start.Start, Meaning.no_bounds, Meaning.row_of}
use Rattle.loc_traps.specs.Walks.{over_row, under_row, over_rows, under_rows, before_rows, behind_rows, fresh_rows}

-- a member of two lists put together is one of the first, or one of the second
append_cases : (xs ys : List Trap) (k : ℕ) → k < length (xs ++ ys) → ((k < length xs) × (row_of (xs ++ ys) k ≡ row_of xs k)) ⊎ ((j : ℕ) × (j < length ys) × (k ≡ length xs + j) × (row_of (xs ++ ys) k ≡ row_of ys j))
append_cases xs ys k less = elim (cases_lt k (length xs)) [
  | inl first ↦ inl (first, get_or-append xs ys no_bounds k first)
  | inr later ↦ inr (k - length xs, (let l = length-append xs ys in omega arith), omega arith, (let at : k ≡ length xs + (k - length xs) = omega arith in ap (λ i. row_of (xs ++ ys) i) at ∙ get_or-append-add xs ys (k - length xs) no_bounds))
]

-- a row that is there only where a test holds
some_row : (b : Bool) (x : Trap) (k : ℕ) → k < length (if b then x ∷ [] else []) → (k ≡ 0) × (b ≡ true) × (row_of (if b then x ∷ [] else []) k ≡ x)
some_row true x zero less = (refl, refl, refl)
some_row true x (suc k) less = absurd (omega arith)
some_row false x k less = absurd (omega arith)

some_count : (b : Bool) (x : Trap) → length (if b then x ∷ [] else []) ≡ (if b then 1 else 0)
some_count true x = refl
some_count false x = refl

the_row : (b : Bool) (x : Trap) → b ≡ true → (row_of (if b then x ∷ [] else []) 0 ≡ x) × (0 < length (if b then x ∷ [] else []))
the_row true x h = (refl, omega arith)
the_row false x h = absurd (cc)

module _ (rows : List Trap) (e lo hi : ℕ) (overs unders : List Start) (first last : Trap) where
  abbrev pub all_rows : List Trap
  all_rows = rows ++ fresh_rows e lo hi overs unders first last

  abbrev pub start : ℕ
  start = length rows

  abbrev pub many_overs : ℕ
  many_overs = length overs - 1

  abbrev pub many_unders : ℕ
  many_unders = length unders - 1

  abbrev pub has_before : ℕ
  has_before = if behind_left first.left lo then 1 else 0

  over_count : length (over_rows e overs) ≡ many_overs
  over_count = length-map-range_with_len (over_row e overs) 0 many_overs

  under_count : length (under_rows e unders) ≡ many_unders
  under_count = length-map-range_with_len (under_row e unders) 0 many_unders

  before_count : length (before_rows first lo) ≡ has_before
  before_count = some_count (behind_left first.left lo) (part_before first lo)

  behind_count : length (behind_rows last hi) ≡ (if before_right last.right hi then 1 else 0)
  behind_count = some_count (before_right last.right hi) (part_behind last hi)

  abbrev sides : List Trap
  sides = over_rows e overs ++ under_rows e unders

  abbrev inner : List Trap
  inner = sides ++ before_rows first lo

  sides_count : length sides ≡ many_overs + many_unders
  sides_count = let l = length-append (over_rows e overs) (under_rows e unders) in let a = over_count in let b = under_count in omega arith

  inner_count : length inner ≡ many_overs + many_unders + has_before
  inner_count = let l = length-append sides (before_rows first lo) in let a = sides_count in let b = before_count in omega arith

  pub fresh_count : length (fresh_rows e lo hi overs unders first last) ≡ many_overs + many_unders + has_before + (if before_right last.right hi then 1 else 0)
  fresh_count = let l = length-append inner (behind_rows last hi) in let a = inner_count in let b = behind_count in omega arith

  pub all_count : length all_rows ≡ start + (many_overs + many_unders + has_before + (if before_right last.right hi then 1 else 0))
  all_count = let l = length-append rows (fresh_rows e lo hi overs unders first last) in let f = fresh_count in omega arith

  -- an old row stays
  pub old_row : (i : ℕ) → i < start → row_of all_rows i ≡ row_of rows i
  old_row i less = get_or-append rows (fresh_rows e lo hi overs unders first last) no_bounds i less

  fresh_row : (k : ℕ) → row_of all_rows (start + k) ≡ row_of (fresh_rows e lo hi overs unders first last) k
  fresh_row k = get_or-append-add rows (fresh_rows e lo hi overs unders first last) k no_bounds

  over_member : (k : ℕ) → k < many_overs → row_of (over_rows e overs) k ≡ over_row e overs k
  over_member k less = get_or-map-range_with_len (over_row e overs) 0 many_overs k k no_bounds less (omega arith)

  under_member : (k : ℕ) → k < many_unders → row_of (under_rows e unders) k ≡ under_row e unders k
  under_member k less = get_or-map-range_with_len (under_row e unders) 0 many_unders k k no_bounds less (omega arith)

  -- ---- the number of each piece
  pub over_number : (k : ℕ) → k < many_overs → (start + k < length all_rows) × (row_of all_rows (start + k) ≡ over_row e overs k)
  over_number k less =
      let a = over_count in
      let s = sides_count in
      let i = inner_count in
      let all = all_count in (
        omega arith,
        fresh_row k ∙ (get_or-append inner (behind_rows last hi) no_bounds k (omega arith) ∙ (get_or-append sides (before_rows first lo) no_bounds k (omega arith) ∙ (get_or-append (over_rows e overs) (under_rows e unders) no_bounds k (omega arith) ∙ over_member k less))),
      )

  pub under_number : (k : ℕ) → k < many_unders → (start + many_overs + k < length all_rows) × (row_of all_rows (start + many_overs + k) ≡ under_row e unders k)
  under_number k less =
      let a = over_count in
      let s = sides_count in
      let i = inner_count in
      let all = all_count in
      let at : start + many_overs + k ≡ start + (many_overs + k) = omega arith in
      let there : many_overs + k ≡ length (over_rows e overs) + k = omega arith in (
        omega arith,
        ap (λ n. row_of all_rows n) at
            ∙ (fresh_row (many_overs + k) ∙ (get_or-append inner (behind_rows last hi) no_bounds (many_overs + k) (omega arith) ∙ (get_or-append sides (before_rows first lo) no_bounds (many_overs + k) (omega arith) ∙ (ap (λ n. row_of sides n) there ∙ (get_or-append-add (over_rows e overs) (under_rows e unders) k no_bounds ∙ under_member k less))))),
      )

  pub before_number : behind_left first.left lo ≡ true → (start + many_overs + many_unders < length all_rows) × (row_of all_rows (start + many_overs + many_unders) ≡ part_before first lo)
  before_number there =
      let s = sides_count in
      let i = inner_count in
      let b = before_count in
      let all = all_count in
      let one = the_row (behind_left first.left lo) (part_before first lo) there in
      let some : 0 < length (before_rows first lo) = one.1 in
      let at : start + many_overs + many_unders ≡ start + length sides = omega arith in
      let here : length sides ≡ length sides + 0 = omega arith in (
        omega arith,
        ap (λ n. row_of all_rows n) at ∙ (fresh_row (length sides) ∙ (get_or-append inner (behind_rows last hi) no_bounds (length sides) (omega arith) ∙ (ap (λ n. row_of inner n) here ∙ (get_or-append-add sides (before_rows first lo) 0 no_bounds ∙ one.0)))),
      )

  pub behind_number : before_right last.right hi ≡ true → (start + many_overs + many_unders + has_before < length all_rows) × (row_of all_rows (start + many_overs + many_unders + has_before) ≡ part_behind last hi)
  behind_number there =
      let i = inner_count in
      let b = behind_count in
      let all = all_count in
      let one = the_row (before_right last.right hi) (part_behind last hi) there in
      let some : 0 < length (behind_rows last hi) = one.1 in
      let at : start + many_overs + many_unders + has_before ≡ start + length inner = omega arith in
      let here : length inner ≡ length inner + 0 = omega arith in (
        omega arith,
        ap (λ n. row_of all_rows n) at ∙ (fresh_row (length inner) ∙ (ap (λ n. row_of (fresh_rows e lo hi overs unders first last) n) here ∙ (get_or-append-add inner (behind_rows last hi) 0 no_bounds ∙ one.0))),
      )

  -- ---- what each new row is
  abbrev pub IsOver : ℕ → Trap → Type 0
  IsOver i trap = (k : ℕ) × (k < many_overs) × (i ≡ start + k) × (trap ≡ over_row e overs k)

  abbrev pub IsUnder : ℕ → Trap → Type 0
  IsUnder i trap = (k : ℕ) × (k < many_unders) × (i ≡ start + many_overs + k) × (trap ≡ under_row e unders k)

  abbrev pub IsBefore : ℕ → Trap → Type 0
  IsBefore i trap = (i ≡ start + many_overs + many_unders) × (behind_left first.left lo ≡ true) × (trap ≡ part_before first lo)

  abbrev pub IsBehind : ℕ → Trap → Type 0
  IsBehind i trap = (i ≡ start + many_overs + many_unders + has_before) × (before_right last.right hi ≡ true) × (trap ≡ part_behind last hi)

  abbrev pub IsNew : ℕ → Trap → Type 0
  IsNew i trap = IsOver i trap ⊎ (IsUnder i trap ⊎ (IsBefore i trap ⊎ IsBehind i trap))

  pub new_row : (i : ℕ) → start ≤ i → i < length all_rows → IsNew i (row_of all_rows i)
  new_row i le less =
      let at : i ≡ start + (i - start) = omega arith in
      let f = fresh_count in
      let all = all_count in
      let here : row_of all_rows i ≡ row_of (fresh_rows e lo hi overs unders first last) (i - start) = ap (λ n. row_of all_rows n) at ∙ fresh_row (i - start) in
      elim (append_cases inner (behind_rows last hi) (i - start) (omega arith)) [
        | inr behind ↦ (let one = some_row (before_right last.right hi) (part_behind last hi) behind.0 behind.1 in
            let c = inner_count in
            inr (inr (inr ((let a = behind.2 in let z = one.0 in omega arith), one.1, here ∙ (behind.3 ∙ one.2)))))
        | inl within ↦ elim (append_cases sides (before_rows first lo) (i - start) within.0) [
          | inr before ↦ (let one = some_row (behind_left first.left lo) (part_before first lo) before.0 before.1 in
              let c = sides_count in
              inr (inr (inl ((let a = before.2 in let z = one.0 in omega arith), one.1, here ∙ (within.1 ∙ (before.3 ∙ one.2))))))
          | inl beside ↦ elim (append_cases (over_rows e overs) (under_rows e unders) (i - start) beside.0) [
            | inl over ↦ (let c = over_count in inl (i - start, (let l = over.0 in omega arith), omega arith, here ∙ (within.1 ∙ (beside.1 ∙ (over.1 ∙ over_member (i - start) (let l = over.0 in omega arith))))))
            | inr under ↦ (let c = over_count in let d = under_count in inr (inl (under.0, (let l = under.1 in omega arith), (let a = under.2 in omega arith), here ∙ (within.1 ∙ (beside.1 ∙ (under.3 ∙ under_member under.0 (let l = under.1 in omega arith)))))))
          ]
        ]
      ]
