-- Lists to which one member is added, and what a list of starts reads as.
use Rattle.std.proofs.Common.{◌≡◌, ℕ, suc, ◌<◌, ◌≤◌, List, [], ◌∷◌, ◌++◌, length, get_or, sym, ◌∙◌, ap, ◌⊎◌, inl, inr, arith}
use Rattle.std.specs.Prelude.{Option, None}
use Rattle.std.proofs.{lemmas.Bool.cases_lt, Math.ListN.get_or-append, Math.Seq.get_or-append_seam}
use Rattle.std.proofs.lemmas.List.{length_push}
use Rattle.loc_traps.specs.{declared.walk.Start.Start, Walks.start_of}

-- the new member is the last one
pub at_end : {A : Type 0} (xs : List A) (x d : A) (n : ℕ) → n ≡ length xs → get_or (xs ++ x ∷ []) n d ≡ x
at_end xs x d n at = ap (λ i. get_or (xs ++ x ∷ []) i d) at ∙ get_or-append_seam xs x [] d

-- each member is an old one, or the new one
pub push_cases : {A : Type 0} (xs : List A) (x : A) (n : ℕ) → n < length (xs ++ x ∷ []) → (n < length xs) ⊎ (n ≡ length xs)
push_cases xs x n less = elim (cases_lt n (length xs)) [
  | inl old ↦ inl old
  | inr le ↦ inr (let e = length_push xs x in omega arith)
]

-- up to start m, the list has these bounds and lefts
pub record Reads (starts : List Start) (m : ℕ) (bounds : ℕ → Option ℕ) (lefts : ℕ → ℕ) : Type 0 where
  pub bound : (i : ℕ) → i ≤ m → bounds i ≡ (start_of starts i).bound
  pub left : (i : ℕ) → i ≤ m → lefts i ≡ (start_of starts i).left

module _ (starts : List Start) (start : Start) (m : ℕ) (many : length starts ≡ suc m) where
  old_start : (i : ℕ) → i ≤ m → start_of (starts ++ start ∷ []) i ≡ start_of starts i
  old_start i le = get_or-append starts (start ∷ []) (record { bound = None; left = 0 }) i (omega arith)

  new_start : start_of (starts ++ start ∷ []) (suc m) ≡ start
  new_start = at_end starts start (record { bound = None; left = 0 }) (suc m) (sym many)

  module _ (bounds : ℕ → Option ℕ) (lefts : ℕ → ℕ) where
    -- with one start less
    pub reads_less : (more : ℕ) → m ≤ more → Reads (starts ++ start ∷ []) more bounds lefts → Reads starts m bounds lefts
    reads_less more le r = record {
      bound = λ i at. r.bound i (omega arith) ∙ ap (λ (s : Start). s.bound) (old_start i at);
      left = λ i at. r.left i (omega arith) ∙ ap (λ (s : Start). s.left) (old_start i at);
    }

    pub reads_last : Reads (starts ++ start ∷ []) (suc m) bounds lefts → (bounds (suc m) ≡ start.bound) × (lefts (suc m) ≡ start.left)
    reads_last r = (r.bound (suc m) (omega arith) ∙ ap (λ (s : Start). s.bound) new_start, r.left (suc m) (omega arith) ∙ ap (λ (s : Start). s.left) new_start)
