-- The faces that lie above a kept edge whose upper side is covered, marked edge after edge.
use Rattle.std.proofs.Common.{◌≡◌, ℕ, ◌+◌, ◌*◌, ◌<◌, Bool, true, false, ◌&&◌, ◌||◌, List, [], ◌∷◌, ◌++◌, length, get_or, set, filter, sym, ◌∙◌, ap, inl, inr, arith, get_or-set_same, get_or-set_other}
use Rattle.std.specs.Prelude.{◌==◌}
use Rattle.std.specs.List.{list_any, range_with_len}
use Rattle.std.proofs.lemmas.Bool.{cases_eq, cond-true, cond-false, eq-eqb, ne_eqb, and_right}
use Rattle.std.proofs.{lemmas.List.append-nil, lemmas.List.Elements.filter-append, lemmas.List.Folds.list_any-append}
use Rattle.loc_spec_plane.specs.Lists.{numbers}
use Rattle.loc_laws_order.proofs.Booleans.{or_none, or_true}
use Rattle.loc_half.proofs.Corners.{range_more}

module _ (face : ℕ → ℕ) (upper : ℕ → Bool) where
  -- face f lies above one of the first n edges, whose upper side is covered
  abbrev pub is_marked : ℕ → ℕ → Bool
  is_marked n f = list_any (λ k. (face (2 * k) == f) && upper k) (numbers n)

  -- one edge more
  marked_more : (n f : ℕ) → is_marked (n + 1) f ≡ (is_marked n f || (((face (2 * n) == f) && upper n) || false))
  marked_more n f = ap (list_any (λ k. (face (2 * k) == f) && upper k)) (range_more 0 n n (omega arith)) ∙ list_any-append (λ k. (face (2 * k) == f) && upper k) (numbers n) (n ∷ [])

  pub marks_none : (n : ℕ) (old : List Bool) → upper n ≡ false → ((f : ℕ) → get_or old f false ≡ is_marked n f) → (f : ℕ) → get_or old f false ≡ is_marked (n + 1) f
  marks_none n old fails each f = each f ∙ sym (marked_more n f ∙ (ap (λ b. is_marked n f || (b || false)) (and_right (face (2 * n) == f) (upper n) fails) ∙ or_none (is_marked n f)))

  pub marks_one : (n : ℕ) (old new : List Bool) → upper n ≡ true → face (2 * n) < length old → new ≡ set old (face (2 * n)) true → ((f : ℕ) → get_or old f false ≡ is_marked n f) → (f : ℕ) → get_or new f false ≡ is_marked (n + 1) f
  marks_one n old new passes fits is each f = ap (λ (l : List Bool). get_or l f false) is ∙ elim (cases_eq f (face (2 * n))) [
    | inl same ↦ ap (λ k. get_or (set old (face (2 * n)) true) k false) same ∙ (get_or-set_same old (face (2 * n)) true false fits
        ∙ sym (marked_more n f ∙ (ap (λ b. is_marked n f || ((b && upper n) || false)) (eq-eqb (face (2 * n)) f (sym same)) ∙ (ap (λ b. is_marked n f || (b || false)) passes ∙ or_true (is_marked n f)))))
    | inr other ↦ get_or-set_other old (face (2 * n)) f true false other ∙ (each f ∙ sym (marked_more n f ∙ (ap (λ b. is_marked n f || ((b && upper n) || false)) (ne_eqb (face (2 * n)) f (λ e. other (sym e))) ∙ or_none (is_marked n f))))
  ]

-- one number more of a range, where it passes or does not
pub range_more_one : (p : ℕ → Bool) (a n j : ℕ) → a + n ≡ j → p j ≡ true → filter p (range_with_len a (n + 1)) ≡ filter p (range_with_len a n) ++ j ∷ []
range_more_one p a n j last pass = ap (filter p) (range_more a n j last) ∙ (filter-append p (range_with_len a n) (j ∷ []) ∙ ap (λ l. filter p (range_with_len a n) ++ l) (cond-true (p j) (j ∷ []) [] pass))

pub range_more_none : (p : ℕ → Bool) (a n j : ℕ) → a + n ≡ j → p j ≡ false → filter p (range_with_len a (n + 1)) ≡ filter p (range_with_len a n)
range_more_none p a n j last fails = ap (filter p) (range_more a n j last) ∙ (filter-append p (range_with_len a n) (j ∷ []) ∙ (ap (λ l. filter p (range_with_len a n) ++ l) (cond-false (p j) (j ∷ []) [] fails) ∙ append-nil (filter p (range_with_len a n))))
