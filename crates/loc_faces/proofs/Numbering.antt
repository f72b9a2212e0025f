-- The numbers of the outer cycles, as one half-edge after another is looked at.
use Rattle.std.proofs.Common.{◌≡◌, ◌≢◌, ℕ, ◌+◌, ◌<◌, ◌≤◌, Bool, true, false, List, [], ◌∷◌, ◌++◌, length, get_or, set, filter, sym, ◌∙◌, ap, subst, inl, inr, arith, get_or-set_same, get_or-set_other, length-set, length-append}
use Rattle.std.specs.Prelude.{count_by}
use Rattle.std.proofs.lemmas.Bool.{cases_eq, cond-true, cond-false, both_ways}
use Rattle.std.proofs.{lemmas.List.append-nil, lemmas.List.Elements.filter-append}
use Rattle.std.proofs.lemmas.List.Sums.{count_by-le-length, length-filter}
use Rattle.std.proofs.lemmas.List.FromFn.{length-range_with_len}
use Rattle.loc_spec_plane.specs.{Lists.numbers, Tables.Table, HalfEdges.half_edge_count, Faces.leads_face}
use Rattle.loc_half.specs.HalfEdgeLists.{HalfEdgeLists, AreHalfEdges, next_in}
use Rattle.loc_half.proofs.Corners.{range_more}
use Rattle.loc_faces.specs.Cycles.{AreNumbered}

-- one number more that passes, or does not
pub filter_more : (p : ℕ → Bool) (i : ℕ) → p i ≡ true → filter p (numbers (i + 1)) ≡ filter p (numbers i) ++ i ∷ []
filter_more p i pass = ap (filter p) (range_more 0 i i (omega arith)) ∙ (filter-append p (numbers i) (i ∷ []) ∙ ap (λ l. filter p (numbers i) ++ l) (cond-true (p i) (i ∷ []) [] pass))

pub filter_past : (p : ℕ → Bool) (i : ℕ) → p i ≡ false → filter p (numbers (i + 1)) ≡ filter p (numbers i)
filter_past p i fails = ap (filter p) (range_more 0 i i (omega arith)) ∙ (filter-append p (numbers i) (i ∷ []) ∙ (ap (λ l. filter p (numbers i) ++ l) (cond-false (p i) (i ∷ []) [] fails) ∙ append-nil (filter p (numbers i))))

module _ (t : Table) (half : HalfEdgeLists) (are : AreHalfEdges t half) where
  -- one that leads an outer cycle
  pub number_more : (outers more of_cycle : List ℕ) (i : ℕ) → i < half_edge_count t → leads_face t (next_in half) i ≡ true → more ≡ outers ++ i ∷ [] → AreNumbered t half outers of_cycle i → AreNumbered t half more (set of_cycle i (length more)) (i + 1)
  number_more outers more of_cycle i lt first is so_far =
      let long : length more ≡ length outers + 1 = ap length is ∙ length-append outers (i ∷ []) in
      let many : length outers ≡ count_by (leads_face t (next_in half)) (numbers i) = ap length so_far.listed ∙ length-filter (leads_face t (next_in half)) (numbers i) in
      let new : get_or (set of_cycle i (length more)) i 0 ≡ length more = get_or-set_same of_cycle i (length more) 0 (omega (arith, lt, so_far.as_many)) in
      record {
        as_many = length-set of_cycle i (length more) ∙ so_far.as_many;
        listed = is ∙ (ap (λ l. l ++ i ∷ []) so_far.listed ∙ sym (filter_more (leads_face t (next_in half)) i first));
        numbered = λ h less leads_h. elim (cases_eq h i) [
          | inl same ↦ (let e : get_or (set of_cycle i (length more)) h 0 ≡ length more = ap (λ k. get_or (set of_cycle i (length more)) k 0) same ∙ new in
              let c : count_by (leads_face t (next_in half)) (numbers h) ≡ count_by (leads_face t (next_in half)) (numbers i) = ap (λ k. count_by (leads_face t (next_in half)) (numbers k)) same in
              omega (arith, e, c, long, many))
          | inr other ↦ (let ne : h ≢ i = other in get_or-set_other of_cycle i h (length more) 0 other ∙ so_far.numbered h (omega (arith, ne, less)) leads_h)
        ];
        within = λ h. elim (cases_eq h i) [
          | inl same ↦ (let e : get_or (set of_cycle i (length more)) h 0 ≡ length more = ap (λ k. get_or (set of_cycle i (length more)) k 0) same ∙ new in omega (arith, e))
          | inr other ↦ (let e : get_or (set of_cycle i (length more)) h 0 ≡ get_or of_cycle h 0 = get_or-set_other of_cycle i h (length more) 0 other in let old = so_far.within h in omega (arith, e, old, long))
        ];
      }

  -- one that does not
  pub number_passed : (outers of_cycle : List ℕ) (i : ℕ) → leads_face t (next_in half) i ≡ false → AreNumbered t half outers of_cycle i → AreNumbered t half outers of_cycle (i + 1)
  number_passed outers of_cycle i not_first so_far = record {
    as_many = so_far.as_many;
    listed = so_far.listed ∙ sym (filter_past (leads_face t (next_in half)) i not_first);
    numbered = λ h less leads_h. elim (cases_eq h i) [
      | inl same ↦ absurd (both_ways (leads_face t (next_in half) i) not_first (subst (λ k. leads_face t (next_in half) k ≡ true) same leads_h))
      | inr other ↦ (let ne : h ≢ i = other in so_far.numbered h (omega (arith, ne, less)) leads_h)
    ];
    within = so_far.within;
  }

  -- no more are listed than there are half-edges
  pub listed_few : (outers of_cycle : List ℕ) (i : ℕ) → AreNumbered t half outers of_cycle i → length outers ≤ i
  listed_few outers of_cycle i so_far =
      omega (arith, ap length so_far.listed, length-filter (leads_face t (next_in half)) (numbers i), count_by-le-length (leads_face t (next_in half)) (numbers i), length-range_with_len 0 i)
