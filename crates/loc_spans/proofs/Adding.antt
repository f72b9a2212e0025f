-- One feature more, and boxes in another order.
use Rattle.std.proofs.Common.{◌≡◌, ℕ, ◌+◌, ◌<◌, ◌≤◌, true, false, List, [], ◌∷◌, ◌++◌, length, map, filter, get_or, sym, ◌∙◌, ap, ap₂, subst, inl, inr, arith, length-append, append-nil}
use Rattle.std.specs.{Ordering.is_lt, List.Sorted.IsPermutation, List.Sorted.IsSorted, List.Sorted.IsSortedByKey}
use Rattle.std.proofs.lemmas.Bool.{cases_lt, cond-true, cond-false}
use Rattle.std.proofs.lemmas.List.{get_or_append_left, get_or_push, get_or-map, length-map, map-append}
use Rattle.std.proofs.lemmas.List.Elements.{All-append, All-cons, All-nil, filter-append}
use Rattle.std.proofs.lemmas.List.Sorted.{All-permutation, IsPermutation-map}
use Rattle.loc_spec_plane.specs.{Lists.numbers, Points.Edge, Rings.Rings, Rings.segments}
use Rattle.loc_laws_order.proofs.Kept.{numbers_more}
use Rattle.loc_laws_noding.proofs.Orders.{edge_cmp}
use Rattle.loc_laws_any.specs.Moments.{AreClosed}
use Rattle.loc_spans.specs.Boxes.{Kept, AreBoxes, AreKept, IsBoxOf, IsBoxed, feature_of, has_segments}

module _ (layer : List Rings) (boxes : List Kept) (n : ℕ) (are : AreBoxes layer boxes n) where
  named_on : (last : List ℕ) → filter (has_segments layer) (n ∷ []) ≡ last → map feature_of boxes ++ last ≡ filter (has_segments layer) (numbers (n + 1))
  named_on last is = ap₂ (λ a b. a ++ b) are.named (sym is) ∙ (sym (filter-append (has_segments layer) (numbers n) (n ∷ [])) ∙ ap (filter (has_segments layer)) (sym (numbers_more n)))

  -- a feature without segments
  pub no_box : has_segments layer n ≡ false → AreBoxes layer boxes (n + 1)
  no_box none = record { each = are.each; named = sym (append-nil (map feature_of boxes)) ∙ named_on [] (cond-false _ _ _ none) }

  -- and one that has some
  pub one_box : (box : Kept) → feature_of box ≡ n → IsBoxOf layer box → has_segments layer n ≡ true → AreBoxes layer (boxes ++ box ∷ []) (n + 1)
  one_box box of is some = record {
    each = All-append (IsBoxOf layer) boxes (box ∷ []) are.each (All-cons (IsBoxOf layer) box [] is (All-nil (IsBoxOf layer)));
    named = map-append feature_of boxes (box ∷ []) ∙ (ap (λ k. map feature_of boxes ++ k ∷ []) of ∙ named_on (n ∷ []) (cond-true _ _ _ some));
  }

-- the segments of one feature more
pub kept_more : (layer : List Rings) (kept : List (List Edge)) (n : ℕ) (rows : List Edge) → AreKept layer kept n → AreClosed (get_or layer n []) → IsPermutation (segments (get_or layer n [])) rows → AreKept layer (kept ++ rows ∷ []) (n + 1)
kept_more layer kept n rows are closed moved = record {
  many = omega (arith, are.many, length-append kept (rows ∷ []));
  closed = λ f lt. elim (cases_lt f n) [
    | inl before ↦ are.closed f before
    | inr last ↦ subst (λ k. AreClosed (get_or layer k [])) (let same : n ≡ f = omega arith in same) closed
  ];
  moved = λ f lt. elim (cases_lt f n) [
    | inl before ↦ subst (IsPermutation (segments (get_or layer f []))) (sym (get_or_append_left kept (rows ∷ []) [] f (omega (arith, before, are.many)))) (are.moved f before)
    | inr last ↦ (let same : n ≡ f = omega arith in
        subst (λ k. IsPermutation (segments (get_or layer k [])) (get_or (kept ++ rows ∷ []) k [])) same (subst (IsPermutation (segments (get_or layer n []))) (sym (get_or_push kept rows [] n are.many)) moved))
  ];
}

-- moments of sorted boxes are sorted
pub sorted_moments : (boxes : List Kept) → IsSortedByKey (λ (box : Kept). box.0) edge_cmp boxes → IsSorted edge_cmp (map (λ (box : Kept). box.0) boxes)
sorted_moments boxes sorted k d low lt =
    let long : k + 1 < length boxes = omega (arith, lt, length-map boxes (λ (box : Kept). box.0)) in
    let none : Kept = (d, record { low = d.lo; high = d.lo; feature = 0 }) in
    ap₂ (λ a b. is_lt (edge_cmp a b)) (get_or-map (λ (box : Kept). box.0) boxes (k + 1) none d long) (get_or-map (λ (box : Kept). box.0) boxes k none d (omega (arith, long))) ∙ sorted k none low long

-- boxes in another order
pub boxed_again : (layer : List Rings) (boxes moved : List Kept) (kept : List (List Edge)) → length layer ≤ 262144 → AreKept layer kept (length layer) → AreBoxes layer boxes (length layer) → IsPermutation boxes moved → IsBoxed layer (record { boxes = moved; segments = kept })
boxed_again layer boxes moved kept few are of order = record {
  few = few;
  kept = are;
  each = All-permutation (IsBoxOf layer) boxes moved order of.each;
  named = subst (λ ns. IsPermutation ns (map feature_of moved)) of.named (IsPermutation-map feature_of boxes moved order);
}
