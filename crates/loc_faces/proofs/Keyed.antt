-- Leaders behind their faces.
use Rattle.std.proofs.Common.{◌≡◌, ℕ, ◌+◌, ◌<◌, Bool, true, ◌&&◌, List, [], ◌∷◌, ◌++◌, map, filter, refl, sym, ◌∙◌, ap, inl, inr}
use Rattle.std.specs.Prelude.{◌==◌, All}
use Rattle.std.proofs.lemmas.Bool.{cases_Bool, cond-true, cond-false, and_from, and_left, and_right, eq-eqb, or_left, or_right}
use Rattle.std.proofs.{lemmas.List.map-append, lemmas.List.Elements.All-cons, lemmas.List.Elements.All-nil}
use Rattle.loc_spec_plane.specs.Lists.{is_in, numbers}
use Rattle.loc_laws_rays.proofs.Picked.{kept_below}
use Rattle.loc_faces.proofs.Numbering.{filter_more}

-- two tests one after the other
pub filter-filter : (p q : ℕ → Bool) (ns : List ℕ) → filter q (filter p ns) ≡ filter (λ n. p n && q n) ns
filter-filter p q [] = refl
filter-filter p q (n ∷ ns) = elim (cases_Bool (p n)) [
  | inl first ↦ ap (filter q) (cond-true (p n) (n ∷ filter p ns) (filter p ns) first) ∙ elim (cases_Bool (q n)) [
    | inl second ↦ cond-true (q n) (n ∷ filter q (filter p ns)) (filter q (filter p ns)) second ∙ (ap (λ l. n ∷ l) (filter-filter p q ns) ∙ sym (cond-true (p n && q n) (n ∷ filter (λ n. p n && q n) ns) (filter (λ n. p n && q n) ns) (and_from (p n) (q n) first second)))
    | inr fails ↦ cond-false (q n) (n ∷ filter q (filter p ns)) (filter q (filter p ns)) fails ∙ (filter-filter p q ns ∙ sym (cond-false (p n && q n) (n ∷ filter (λ n. p n && q n) ns) (filter (λ n. p n && q n) ns) (and_right (p n) (q n) fails)))
  ]
  | inr fails ↦ ap (filter q) (cond-false (p n) (n ∷ filter p ns) (filter p ns) fails) ∙ (filter-filter p q ns ∙ sym (cond-false (p n && q n) (n ∷ filter (λ n. p n && q n) ns) (filter (λ n. p n && q n) ns) (and_left (p n) (q n) fails)))
]

-- one number more that passes, behind its key
pub keyed_more : (f : ℕ → ℕ × ℕ) (p : ℕ → Bool) (i : ℕ) → p i ≡ true → map f (filter p (numbers i)) ++ f i ∷ [] ≡ map f (filter p (numbers (i + 1)))
keyed_more f p i pass = sym (ap (map f) (filter_more p i pass) ∙ map-append f (filter p (numbers i)) (i ∷ []))

-- keys below a count
pub keyed_within : (key : ℕ → ℕ) (p : ℕ → Bool) (count n : ℕ) → ((h : ℕ) → h < n → key h < count) → All (λ (pair : ℕ × ℕ). pair.0 < count) (map (λ h. (key h, h)) (filter p (numbers n)))
keyed_within key p count n fits = within (filter p (numbers n)) (λ h here. fits h (kept_below p n h here).0)
  where
    within : (hs : List ℕ) → ((h : ℕ) → is_in h hs ≡ true → key h < count) → All (λ (pair : ℕ × ℕ). pair.0 < count) (map (λ h. (key h, h)) hs)
    within [] each = All-nil (λ (pair : ℕ × ℕ). pair.0 < count)
    within (h ∷ hs) each = All-cons (λ (pair : ℕ × ℕ). pair.0 < count) (key h, h) (map (λ h. (key h, h)) hs) (each h (or_left (h == h) (is_in h hs) (eq-eqb h h refl))) (within hs (λ g here. each g (or_right (h == g) (is_in g hs) here)))
