-- The numbers noted of lists of at most one feature.
use Rattle.std.proofs.Common.{◌≡◌, ◌≢◌, ℕ, ◌-◌, ◌<◌, ◌≤◌, List, [], ◌∷◌, ◌++◌, length, replicate, take, get_or, refl, sym, ◌∙◌, ap, subst, inl, inr, arith, Option, Some, None}
use Rattle.std.specs.Prelude.{IfSome}
use Rattle.std.proofs.lemmas.Bool.{cases_eq, cases_lt}
use Rattle.std.proofs.lemmas.List.{get_or_append_left, get_or-append_right, get_or-replicate, get_or_past, length-append, length-replicate, take_all}
use Rattle.loc_cover.specs.Stores.{AreShort, short_list}

-- what is so of the value, where there is one
pub if_some : {X : Type 0} (P : X → Type 0) (o : Option X) → ((x : X) → o ≡ Some x → P x) → IfSome o P
if_some P None each = tt
if_some P (Some x) each = each x refl

-- places without a number have none
none_of : (many k : ℕ) → get_or (replicate {A = Option ℕ} many None) k None ≡ None
none_of many k = elim (cases_lt k many) [
  | inl lt ↦ get_or-replicate many k None None lt
  | inr le ↦ get_or_past (replicate many None) k None (let size = length-replicate {A = Option ℕ} many None in omega (arith, le, size))
]

-- they stay those of their rows where there is one more row
pub short_kept : (rows : List (List ℕ)) (list : List ℕ) (numbers : List (Option ℕ)) → AreShort rows numbers → AreShort (rows ++ list ∷ []) numbers
short_kept rows list numbers short k n at =
    let old = short k n at in
    let fits : n < length rows = old.0 in
    ((let size = length-append rows (list ∷ []) in omega (arith, fits, size)), get_or_append_left rows (list ∷ []) [] n fits ∙ old.1)

-- and where one more is noted
pub short_more : (rows : List (List ℕ)) (old new : List (Option ℕ)) (place number : ℕ) → AreShort rows old → number < length rows → get_or rows number [] ≡ short_list place → get_or new place None ≡ Some number → ((k : ℕ) → k ≢ place → get_or new k None ≡ get_or old k None) → AreShort rows new
short_more rows old new place number short fits found here others k n at = elim (cases_eq k place) [
  | inl same ↦ (let is : number ≡ n = cc (here, ap (λ j. get_or new j None) same, at) in
      (subst (λ m. m < length rows) is fits, subst (λ m. get_or rows m [] ≡ short_list k) is (found ∙ ap short_list (sym same))))
  | inr other ↦ short k n (sym (others k other) ∙ at)
]

-- with more places for numbers, and none in them, the same are noted
pub none_more : (old new : List (Option ℕ)) (many k : ℕ) → length old ≤ many → new ≡ take many old ++ replicate (many - length old) None → get_or new k None ≡ get_or old k None
none_more old new many k fits is =
    let more = replicate {A = Option ℕ} (many - length old) None in
    ap (λ xs. get_or xs k None) is ∙ (ap (λ xs. get_or (xs ++ more) k None) (take_all many old fits) ∙ elim (cases_lt k (length old)) [
      | inl lt ↦ get_or_append_left old more None k lt
      | inr le ↦ get_or-append_right old more (length old) k None refl le ∙ (none_of (many - length old) (k - length old) ∙ sym (get_or_past old k None le))
    ])
