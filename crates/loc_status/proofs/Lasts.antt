-- The last member of the front of a list, and the first of what follows: a search that passes the one and not the other ends between them.
use Rattle.std.proofs.Common.{◌≡◌, ℕ, ◌-◌, ◌<◌, Bool, true, false, List, [], ◌∷◌, ◌++◌, length, get_or, sym, ap, ◌∙◌, subst, arith, Option, Some, slice_get}
use Rattle.std.specs.Prelude.{◌+◌, IfSome}
use Rattle.std.proofs.lemmas.List.{length-append, get_or_append_left, get_or-append-add}
use Rattle.std.proofs.lemmas.Option.{slice_get-get_or}
use Rattle.loc_status.specs.{Lists.IsLast, Targets.IsSearchEnd}
use Rattle.loc_status.proofs.Ends.{at_seam}

-- the last item of a list
pub last-snoc : (front : List ℕ) (x : ℕ) → IsLast (front ++ x ∷ []) (Some x)
last-snoc front x =
    let n = length-append front (x ∷ []) in
    let at : length front ≡ length (front ++ x ∷ []) - 1 = omega (arith, n) in
    record { none = λ empty. absurd (omega (arith, n, empty)); some = λ more. sym (ap (λ k. slice_get (front ++ x ∷ []) k) (sym at) ∙ at_seam front (x ∷ [])) }

-- the item before the end of a front, and the first of a back, by their places in the whole list
pub last-passes : (passes : ℕ → Bool) (front back : List ℕ) (last : Option ℕ) → IsLast front last → IfSome last (λ item. passes item ≡ true) → 0 < length front → passes (get_or (front ++ back) (length front - 1) 0) ≡ true
last-passes passes front back last is_last pass more =
    let less : length front - 1 < length front = omega (arith, more) in
    subst (λ x. passes x ≡ true) (sym (get_or_append_left front back 0 (length front - 1) less)) (subst (λ o. IfSome o (λ item. passes item ≡ true)) (is_last.some more ∙ slice_get-get_or front (length front - 1) 0 less) pass)

first-fails : (passes : ℕ → Bool) (front back : List ℕ) (first : Option ℕ) → first ≡ slice_get back 0 → IfSome first (λ item. passes item ≡ false) → 0 < length back → passes (get_or (front ++ back) (length front) 0) ≡ false
first-fails passes front back first is_first fail more =
    let here : length front + 0 ≡ length front = omega arith in
    subst (λ k. passes (get_or (front ++ back) k 0) ≡ false) here (subst (λ x. passes x ≡ false) (sym (get_or-append-add front back 0 0)) (subst (λ o. IfSome o (λ item. passes item ≡ false)) (is_first ∙ slice_get-get_or back 0 0 more) fail))

-- a search by the test ends between the two
pub search_end : (passes : ℕ → Bool) (front back content : List ℕ) (last first : Option ℕ) → front ++ back ≡ content → IsLast front last → first ≡ slice_get back 0 → IfSome last (λ item. passes item ≡ true) → IfSome first (λ item. passes item ≡ false) → IsSearchEnd passes content (length front)
search_end passes front back content last first whole is_last is_first pass fail =
    let n = length-append front back in
    subst (λ xs. IsSearchEnd passes xs (length front)) whole (record {
      within = omega (arith, n);
      passed = last-passes passes front back last is_last pass;
      reached = λ less. first-fails passes front back first is_first fail (omega (arith, n, less));
    })

-- what stands at the end of a front
pub last_there : (front back : List ℕ) (last : Option ℕ) → IsLast front last → 0 < length front → last ≡ slice_get (front ++ back) (length front - 1)
last_there front back last is_last more =
    let less : length front - 1 < length front = omega (arith, more) in
    let inside : length front - 1 < length (front ++ back) = omega (arith, length-append front back, less) in
    is_last.some more ∙ (slice_get-get_or front (length front - 1) 0 less ∙ (ap Some (sym (get_or_append_left front back 0 (length front - 1) less)) ∙ sym (slice_get-get_or (front ++ back) (length front - 1) 0 inside)))
