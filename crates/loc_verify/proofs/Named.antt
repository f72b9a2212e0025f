-- Rows of marks, and lists that are named.
use Rattle.std.proofs.Common.{◌≡◌, ℕ, ◌+◌, ◌<◌, Bool, true, false, ◌||◌, List, [], ◌∷◌, length, get_or, set, take, refl, sym, ◌∙◌, ap, inl, inr, arith}
use Rattle.std.specs.Prelude.{Some, slice_get, ◌==◌}
use Rattle.std.proofs.lemmas.Bool.{cases_eq, eq-eqb, eqb-true, ne_eqb, or_right}
use Rattle.std.proofs.{lemmas.Grind.get_or-set_at, lemmas.List.get_or-set_other, lemmas.List.Folds.list_any_more}
use Rattle.std.proofs.lemmas.Option.{get_or_from_slice_get, slice_get_within}
use Rattle.loc_spec_plane.specs.Lists.{is_in}
use Rattle.loc_laws_order.proofs.Booleans.{or_none}

-- a row without items is empty
pub no_items : {X : Type 0} (row : List X) → (length row == 0) ≡ true → row ≡ []
no_items [] h = refl
no_items (x ∷ xs) h = absurd (omega (arith, eqb-true _ _ h))

-- one more edge names its list
pub named_more : (named : List Bool) (above : List ℕ) (e k n : ℕ) → slice_get above e ≡ Some k → n < length named → get_or named n false ≡ is_in n (take e above) → get_or (set named k true) n false ≡ is_in n (take (e + 1) above)
named_more named above e k n at fits before = elim (cases_eq n k) [
  | inl same ↦ get_or-set_at named k n true false same (omega (arith, same, fits)) ∙ sym (grown ∙ or_right (is_in n (take e above)) (get_or above e 0 == n) (eq-eqb _ _ (here ∙ sym same)))
  | inr other ↦ get_or-set_other named k n true false other ∙ (before ∙ sym (grown ∙ (ap (λ b. is_in n (take e above) || b) (ne_eqb _ _ (λ it. other (sym it ∙ here))) ∙ or_none (is_in n (take e above)))))
]
  where
    here : get_or above e 0 ≡ k
    here = get_or_from_slice_get above e k 0 at

    grown : is_in n (take (e + 1) above) ≡ (is_in n (take e above) || (get_or above e 0 == n))
    grown = list_any_more (λ m. m == n) above e 0 (slice_get_within above e k at)
