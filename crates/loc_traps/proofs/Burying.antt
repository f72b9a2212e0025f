-- Rows that are live no longer, and lists that grow.
use Rattle.std.proofs.Common.{◌≡◌, ◌≢◌, ℕ, zero, suc, ◌+◌, ◌-◌, ◌<◌, ◌≤◌, Bool, true, false, not, ◌&&◌, ◌||◌, cond, List, [], ◌∷◌, ◌++◌, length, set, take, drop, replicate, get_or, get_or-set_other, get_or-set_same, refl, sym, ◌∙◌, ap, subst, ◌⊎◌, inl, inr, arith}
use Rattle.std.specs.Prelude.{Option, None, if◌then◌else◌, ◌==◌}
use Rattle.std.proofs.lemmas.Bool.{cases_lt, cases_eq, eq-eqb, ne_eqb}
use Rattle.std.proofs.lemmas.List.{take_more, take_all, get_or_past}
use Rattle.std.proofs.{lemmas.List.Sums.sum_by-set, Math.ListN.get_or-append}
use Rattle.std.proofs.{Math.Seq.get_or-append_right, Math.Seq.take-append_seam, lemmas.List.Folds.list_any-append}
use Rattle.loc_spec_plane.specs.declared.Trap.{Trap}
use Rattle.loc_laws_order.proofs.Booleans.{and_none, and_true, or_none}
use Rattle.loc_laws_traps.specs.Maps.{Renames}
use Rattle.loc_traps.specs.{declared.map.Split.Split, Meaning.live_of, Meaning.live_count}
use Rattle.loc_traps.specs.Splits.{split_of, is_cut_by}

-- a row counts as one where it is live
abbrev one_of : Bool → ℕ
one_of b = cond b 1 0

-- one live row less
pub count_less : (xs : List Bool) (i : ℕ) → i < length xs → live_of xs i ≡ true → live_count (set xs i false) + 1 ≡ live_count xs
count_less xs i real h =
    let change = sum_by-set one_of xs i false false real in
    let was : one_of (live_of xs i) ≡ one_of true = ap one_of h in
    omega (arith, change, was)

-- a test that also asks for one number less
and_not_or : (a b c : Bool) → (a && not (b || c)) ≡ ((a && not b) && not c)
and_not_or true true c = refl
and_not_or true false c = refl
and_not_or false b c = refl

module _ (old : List Bool) (splits : List Split) (j : ℕ) (less : j < length splits) where
  abbrev cut : ℕ
  cut = (split_of splits j).cut

  more_cut : (i : ℕ) → is_cut_by (take (j + 1) splits) i ≡ (is_cut_by (take j splits) i || (cut == i))
  more_cut i =
      ap (λ (s : List Split). is_cut_by s i) (take_more splits j (record { cut = 0; before = None; above = 0; below = 0; behind = None }) less)
      ∙ (list_any-append (λ (s : Split). s.cut == i) (take j splits) (split_of splits j ∷ []) ∙ ap (λ b. is_cut_by (take j splits) i || b) (or_none (cut == i)))

  pub bury_more : (now : List Bool) → cut < length now → ((i : ℕ) → live_of now i ≡ (live_of old i && not (is_cut_by (take j splits) i))) → (i : ℕ) → live_of (set now cut false) i ≡ (live_of old i && not (is_cut_by (take (j + 1) splits) i))
  bury_more now real so_far i =
      at_row i ∙ sym (ap (λ b. live_of old i && not b) (more_cut i) ∙ and_not_or (live_of old i) (is_cut_by (take j splits) i) (cut == i))
    where
      at_row : (i : ℕ) → live_of (set now cut false) i ≡ ((live_of old i && not (is_cut_by (take j splits) i)) && not (cut == i))
      at_row i = elim (cases_eq cut i) [
        | inl same ↦ subst (λ k. get_or (set now cut false) k false ≡ ((live_of old i && not (is_cut_by (take j splits) i)) && not (cut == i))) same
            (get_or-set_same now cut false false real ∙ sym (ap (λ b. (live_of old i && not (is_cut_by (take j splits) i)) && not b) (eq-eqb cut i same) ∙ and_none (live_of old i && not (is_cut_by (take j splits) i))))
        | inr other ↦ (let off : i ≢ cut = λ same. other (sym same) in
            rw get_or-set_other (so_far i ∙ sym (ap (λ b. (live_of old i && not (is_cut_by (take j splits) i)) && not b) (ne_eqb cut i other) ∙ and_true (live_of old i && not (is_cut_by (take j splits) i)))))
      ]

-- the row of a split is not among those of the splits before it
pub not_before : (splits : List Split) (j : ℕ) → j ≤ length splits → (i : ℕ) → ((k : ℕ) → k < j → (split_of splits k).cut ≡ i → ⊥) → is_cut_by (take j splits) i ≡ false
not_before splits zero le i off = refl
not_before [] (suc j) le i off = refl
not_before (s ∷ splits) (suc j) le i off = elim (cases_eq s.cut i) [
  | inl same ↦ absurd (off 0 (omega arith) same)
  | inr other ↦ rw (ne_eqb s.cut i other) (not_before splits j (omega arith) i (λ k less same. off (suc k) (omega arith) same))
]

-- a list of nothing has nothing
none_in : {A : Type 0} (m k : ℕ) → ◌≡◌ {A = Option A} (get_or (replicate m None) k None) None
none_in zero k = refl
none_in (suc m) zero = refl
none_in (suc m) (suc k) = none_in m k

-- a list that has grown has the same members
pub grown : {A : Type 0} (is_grown : Bool) (xs : List (Option A)) (n many : ℕ) → many ≡ length xs → many ≤ n → (c : ℕ) → get_or (if is_grown then take n xs ++ replicate (n - many) None else xs) c None ≡ get_or xs c None
grown false xs n many same le c = refl
grown true xs n many same le c = subst (λ ys. get_or (ys ++ replicate (n - many) None) c None ≡ get_or xs c None) (sym (take_all n xs (omega arith))) (at (cases_lt c (length xs)))
  where
    at : (c < length xs) ⊎ (length xs ≤ c) → get_or (xs ++ replicate (n - many) None) c None ≡ get_or xs c None
    at (inl less) = get_or-append xs (replicate (n - many) None) None c less
    at (inr past) = get_or-append_right xs (replicate (n - many) None) c None past ∙ (none_in (n - many) (c - length xs) ∙ sym (get_or_past xs c None past))

-- what is written back is the list itself
pub written_back : {A : Type 0} (n : ℕ) (xs rest : List A) → length xs ≡ n → take n (xs ++ drop (length xs) rest) ≡ xs
written_back n xs rest many = subst (λ k. take k (xs ++ drop (length xs) rest) ≡ xs) many (take-append_seam xs (drop (length xs) rest))

-- names from the same names
pub renames_from : (n m : ℕ) (row : ℕ → Trap) (kind : ℕ → Trap → Bool) (named same renamed : ℕ → Option ℕ) → ((c : ℕ) → same c ≡ named c) → Renames n m row kind same renamed → Renames n m row kind named renamed
renames_from n m row kind named same renamed is_same r = record { fresh = r.fresh; stay = λ c off. r.stay c off ∙ is_same c }
