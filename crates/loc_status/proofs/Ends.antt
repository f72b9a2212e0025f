-- Where a search ends, and what stands there in the list.
use Rattle.std.proofs.Common.{◌≡◌, ℕ, zero, suc, ◌-◌, ◌<◌, ◌≤◌, Bool, true, false, List, [], ◌∷◌, ◌++◌, length, take, drop, get_or, refl, sym, ◌∙◌, ap, subst, inl, inr, arith, Option, Some, None, slice_get}
use Rattle.std.specs.Prelude.{◌==◌}
use Rattle.std.proofs.lemmas.Bool.{both_ways, cases_lt, cases_order, or_cases, eqb-true, true≢false}
use Rattle.std.proofs.lemmas.List.{drop_all}
use Rattle.std.proofs.lemmas.Option.{slice_get-get_or, slice_get_within, slice_get_past}
use Rattle.loc_spec_plane.specs.Lists.{is_in}
use Rattle.loc_laws_order.specs.Laws.{later_or, last_that}
use Rattle.loc_status.specs.{Lists.IsRemoved, Lists.IsNextBelow, Lists.IsNextAbove, Targets.IsSearchEnd}

-- the test passes exactly the edges before the place
pub record IsParted (passes : ℕ → Bool) (es : List ℕ) (place : ℕ) : Type 0 where
  pub before : (i : ℕ) → i < place → i < length es → passes (get_or es i 0) ≡ true
  pub behind : (i : ℕ) → place ≤ i → i < length es → passes (get_or es i 0) ≡ false

-- then a search ends there
pub ends_there : (passes : ℕ → Bool) (es : List ℕ) (place stop : ℕ) → place < length es → IsParted passes es place → IsSearchEnd passes es stop → stop ≡ place
ends_there passes es place stop fits parted end = elim (cases_order stop place) [
  | inl same ↦ same
  | inr other ↦ elim other [
    | inl less ↦ absurd (both_ways (passes (get_or es stop 0)) (end.reached (omega arith)) (parted.before stop less (omega arith)))
    | inr more ↦ absurd (both_ways (passes (get_or es (stop - 1) 0)) (parted.behind (stop - 1) (omega arith) (omega (arith, end.within))) (end.passed (omega arith)))
  ]
]

-- a member stands at a place
pub member_place : (es : List ℕ) (e : ℕ) → is_in e es ≡ true → (j : ℕ) × (slice_get es j ≡ Some e)
member_place [] e here = absurd (true≢false (sym here))
member_place (d ∷ es) e here = elim (or_cases (d == e) (is_in e es) here) [
  | inl same ↦ (0, ap (λ k. Some k) (eqb-true d e same))
  | inr later ↦ (let found = member_place es e later in (suc found.0, found.1))
]

-- ---- what stands at a place and beside it
pub at_seam : (front back : List ℕ) → slice_get (front ++ back) (length front) ≡ slice_get back 0
at_seam [] back = refl
at_seam (d ∷ front) back = at_seam front back

pub split_at : (es : List ℕ) (j e : ℕ) → slice_get es j ≡ Some e → es ≡ take j es ++ e ∷ drop (suc j) es
split_at [] j e at = absurd cc
split_at (d ∷ es) zero e at = let same : d ≡ e = cc in ap (λ k. k ∷ es) same
split_at (d ∷ es) (suc j) e at = ap (λ ds. d ∷ ds) (split_at es j e at)

split_two : (es : List ℕ) (j d e : ℕ) → slice_get es j ≡ Some d → slice_get es (suc j) ≡ Some e → es ≡ take j es ++ d ∷ e ∷ drop (suc (suc j)) es
split_two [] j d e at next = absurd cc
split_two (c ∷ es) zero d e at next = let same : c ≡ d = cc in ap (λ k. k ∷ es) same ∙ ap (λ ds. d ∷ ds) (split_at es 0 e next)
split_two (c ∷ es) (suc j) d e at next = ap (λ ds. c ∷ ds) (split_two es j d e at next)

-- the member at a place taken out
pub taken_out : (es : List ℕ) (j e : ℕ) → slice_get es j ≡ Some e → IsRemoved e es (take j es ++ drop (suc j) es)
taken_out es j e at = record { front = take j es; back = drop (suc j) es; old_is = split_at es j e at; new_is = refl }

-- the member before a place, and the one behind it
pub next_below : (es : List ℕ) (j e : ℕ) (found : Option ℕ) → slice_get es j ≡ Some e → (j ≡ 0 → found ≡ None) → (0 < j → found ≡ slice_get es (j - 1)) → IsNextBelow e es found
next_below es zero e found at first later = subst (λ o. IsNextBelow e es o) (sym (first refl)) (drop 1 es, split_at es 0 e at)
next_below es (suc j) e found at first later =
    let fits : suc j < length es = slice_get_within es (suc j) e at in
    let less : j < length es = omega arith in
    let back : suc j - 1 ≡ j = omega arith in
    let before = slice_get-get_or es j 0 less in
    subst (λ o. IsNextBelow e es o) (sym (later (omega arith) ∙ (ap (λ k. slice_get es k) back ∙ before))) (take j es, drop (suc (suc j)) es, split_two es j (get_or es j 0) e before at)

pub next_above : (es : List ℕ) (j e : ℕ) → slice_get es j ≡ Some e → IsNextAbove e es (slice_get es (suc j))
next_above es j e at = elim (cases_lt (suc j) (length es)) [
  | inl less ↦ (let next = slice_get-get_or es (suc j) 0 less in
      subst (λ o. IsNextAbove e es o) (sym next) (take j es, drop (suc (suc j)) es, split_two es j e (get_or es (suc j) 0) at next))
  | inr past ↦ subst (λ o. IsNextAbove e es o) (sym (slice_get_past es (suc j) past)) (take j es, split_at es j e at ∙ ap (λ ds. take j es ++ e ∷ ds) (drop_all (suc j) es past))
]

-- ---- the last that passes
last_none : (test : ℕ → Bool) (es : List ℕ) → ((i : ℕ) → i < length es → test (get_or es i 0) ≡ false) → last_that test es ≡ None
last_none test [] never = refl
last_none test (e ∷ es) never = ap (λ o. later_or o (test e) e) (last_none test es (λ i fits. never (suc i) (omega arith))) ∙ ap (λ b. later_or None b e) (never 0 (omega arith))

last_at : (test : ℕ → Bool) (es : List ℕ) (j : ℕ) → j < length es → test (get_or es j 0) ≡ true → ((i : ℕ) → j < i → i < length es → test (get_or es i 0) ≡ false) → last_that test es ≡ Some (get_or es j 0)
last_at test [] j fits here never = absurd (omega arith)
last_at test (e ∷ es) zero fits here never = ap (λ o. later_or o (test e) e) (last_none test es (λ i less. never (suc i) (omega arith) (omega arith))) ∙ ap (λ b. later_or None b e) here
last_at test (e ∷ es) (suc j) fits here never = ap (λ o. later_or o (test e) e) (last_at test es j (omega arith) here (λ i more less. never (suc i) (omega arith) (omega arith)))

-- it stands before the end of a search whose test passes no later edge
pub last_found : (test : ℕ → Bool) (es : List ℕ) (stop : ℕ) (found : Option ℕ) → IsSearchEnd test es stop → ((i : ℕ) → stop ≤ i → i < length es → test (get_or es i 0) ≡ false) → (stop ≡ 0 → found ≡ None) → (0 < stop → found ≡ slice_get es (stop - 1)) → found ≡ last_that test es
last_found test es zero found end never first later = first refl ∙ sym (last_none test es (λ i fits. never i (omega arith) fits))
last_found test es (suc j) found end never first later =
    let within : suc j ≤ length es = end.within in
    let less : j < length es = omega arith in
    let back : suc j - 1 ≡ j = omega arith in
    let here : test (get_or es j 0) ≡ true = subst (λ k. test (get_or es k 0) ≡ true) back (end.passed (omega arith)) in
    later (omega arith) ∙ (ap (λ k. slice_get es k) back ∙ (slice_get-get_or es j 0 less ∙ sym (last_at test es j less here (λ i more fits. never i (omega arith) fits))))
