-- The faces that are covered, as the edges are gone through, and how many there are.
use Rattle.std.proofs.Common.{◌≡◌, ℕ, zero, suc, ◌+◌, ◌-◌, ◌*◌, ◌<◌, ◌≤◌, Bool, true, false, cond, ◌&&◌, ◌||◌, List, [], ◌∷◌, length, get_or, refl, sym, ◌∙◌, ap, ap₂, inl, inr, arith}
use Rattle.std.proofs.{Math.ListN.set, lemmas.Bool.cases_eq, lemmas.Bool.eq-eqb, lemmas.Bool.ne_eqb}
use Rattle.std.specs.Prelude.{count_by, ◌==◌}
use Rattle.std.specs.List.{list_any, range_with_len}
use Rattle.std.proofs.lemmas.List.{get_or-set_other, get_or-set_same, length-set}
use Rattle.std.proofs.{lemmas.List.Folds.list_any-append, lemmas.List.Sums.sum_by-cons, lemmas.List.Sums.sum_by_push}
use Rattle.loc_spec_plane.specs.Lists.{numbers}
use Rattle.loc_laws_order.proofs.Booleans.{and_none, or_none, or_true}
use Rattle.loc_half.proofs.Corners.{range_more}

-- one face more
pub count_more : (p : ℕ → Bool) (face : ℕ) → 1 ≤ face → count_by p (range_with_len 1 (face + 1 - 1)) ≡ count_by p (range_with_len 1 (face - 1)) + cond (p face) 1 0
count_more p face some =
    let next : face + 1 - 1 ≡ face - 1 + 1 = omega arith in
    ap (λ n. count_by p (range_with_len 1 n)) next
    ∙ (ap (count_by p) (range_more 1 (face - 1) face (omega arith)) ∙ sum_by_push (λ f. cond (p f) 1 0) (range_with_len 1 (face - 1)) face)

-- one number more
pub any_more : (p : ℕ → Bool) (n : ℕ) → list_any p (numbers (n + 1)) ≡ (list_any p (numbers n) || p n)
any_more p n = ap (list_any p) (range_more 0 n n (omega arith)) ∙ (list_any-append p (numbers n) (n ∷ []) ∙ ap (λ b. list_any p (numbers n) || b) (or_none (p n)))

module _ (face : ℕ → ℕ) (names : ℕ → Bool) (count : ℕ) where
  -- of the edges below n, one above which the feature is has its upper side in face f
  abbrev pub has_face : ℕ → ℕ → Bool
  has_face n f = list_any (λ e. (face (2 * e) == f) && names e) (numbers n)

  -- the faces of these edges are noted
  abbrev pub AreNoted : ℕ → List Bool → Type 0
  AreNoted n covered = (length covered ≡ count) × ((f : ℕ) → f < count → get_or covered f false ≡ has_face n f)

  -- an edge above which it is
  pub note_more : (n : ℕ) (covered : List Bool) → names n ≡ true → face (2 * n) < count → AreNoted n covered → AreNoted (n + 1) (set covered (face (2 * n)) true)
  note_more n covered on fits noted = (length-set covered (face (2 * n)) true ∙ noted.0, each)
    where
      each : (f : ℕ) → f < count → get_or (set covered (face (2 * n)) true) f false ≡ has_face (n + 1) f
      each f lt = elim (cases_eq (face (2 * n)) f) [
        | inl same ↦ (let within : face (2 * n) < length covered = omega (arith, fits, noted.0) in
            ap (λ k. get_or (set covered (face (2 * n)) true) k false) (sym same) ∙ (get_or-set_same covered (face (2 * n)) true false within
            ∙ sym (any_more (λ e. (face (2 * e) == f) && names e) n ∙ (ap₂ (λ a b. has_face n f || (a && b)) (eq-eqb (face (2 * n)) f same) on ∙ or_true (has_face n f)))))
        | inr other ↦ (let off : f ≡ face (2 * n) → ⊥ = λ e. other (sym e) in
            get_or-set_other covered (face (2 * n)) f true false off ∙ (noted.1 f lt ∙ sym (any_more (λ e. (face (2 * e) == f) && names e) n ∙ (ap (λ b. has_face n f || (b && names n)) (ne_eqb (face (2 * n)) f other) ∙ or_none (has_face n f)))))
      ]

  -- one above which it is not
  pub note_same : (n : ℕ) (covered : List Bool) → names n ≡ false → AreNoted n covered → AreNoted (n + 1) covered
  note_same n covered off noted = (noted.0, λ f lt. noted.1 f lt ∙ sym (any_more (λ e. (face (2 * e) == f) && names e) n ∙ (ap (λ b. has_face n f || ((face (2 * n) == f) && b)) off ∙ (ap (λ b. has_face n f || b) (and_none (face (2 * n) == f)) ∙ or_none (has_face n f)))))

-- tests that agree on a range count the same
pub count_agree : (p q : ℕ → Bool) (a n : ℕ) → ((f : ℕ) → a ≤ f → f < a + n → p f ≡ q f) → count_by p (range_with_len a n) ≡ count_by q (range_with_len a n)
count_agree p q a zero same = refl
count_agree p q a (suc n) same =
    sum_by-cons (λ f. cond (p f) 1 0) a (range_with_len (a + 1) n)
    ∙ (ap₂ (λ (b : Bool) (k : ℕ). cond b 1 0 + k) (same a (omega arith) (omega arith)) (count_agree p q (a + 1) n (λ f ge lt. same f (omega arith) (omega arith)))
    ∙ sym (sum_by-cons (λ f. cond (q f) 1 0) a (range_with_len (a + 1) n)))
