-- The groups that keep an edge, one after the other, and the edges that each group keeps, edge after edge.
use Rattle.std.proofs.Common.{◌≡◌, ℕ, zero, suc, ◌+◌, ◌<◌, Bool, true, false, ◌&&◌, ◌||◌, List, [], ◌∷◌, ◌++◌, length, get_or, map, filter, take, refl, sym, ◌∙◌, ap, ap₂, subst, inl, inr, arith, append-nil, length-append}
use Rattle.std.specs.Prelude.{◌==◌, All, count_by, nat_lt, if◌then◌else◌}
use Rattle.std.proofs.Math.Seq.{get_or-append_seam}
use Rattle.std.proofs.lemmas.Bool.{cases_Bool, cases_eq, cases_lt, cond-true, cond-false, eq-eqb, ne_eqb, ltb-true, and_from, and_parts, and_right}
use Rattle.std.proofs.lemmas.List.{get_or_append_left, map-append, take_more}
use Rattle.std.proofs.{lemmas.List.Elements.filter-append, lemmas.List.Folds.list_any-append}
use Rattle.loc_spec_plane.specs.Lists.{is_in, is_rising, numbers}
use Rattle.loc_laws_order.proofs.{Booleans.or_none, Booleans.or_true, TableOrder.rises}
use Rattle.loc_half.proofs.Corners.{range_more}
use Rattle.loc_edges.specs.Ending.{row_of}
use Rattle.loc_dissolve.specs.{Keeping.changes, declared.crossing.Crossing.Crossing}

-- group g is covered on exactly one side, by the rows of the edge
abbrev pub does_change : Crossing → List ℕ → ℕ → Bool
does_change crossing above g = changes (count_by (λ h. h == g) above) (count_by (λ h. h == g) crossing.odd_groups.items) (count_by (λ h. h == g) crossing.inside_groups.items)

-- an edge, where the test holds
abbrev pub edge_if : Bool → ℕ → List ℕ
edge_if b edge = if b then edge ∷ [] else []

-- those of the groups that pass have got the edge behind them
abbrev pub GainsTo : (ℕ → Bool) → ℕ → List ℕ → List (ℕ × ℕ) → List (ℕ × ℕ) → Type 0
GainsTo test edge gs old new = (g : ℕ) → row_of new g ≡ row_of old g ++ edge_if (is_in g gs && test g) edge

-- one pair more
row_of-more : (pairs : List (ℕ × ℕ)) (k edge g : ℕ) → row_of (pairs ++ (k, edge) ∷ []) g ≡ row_of pairs g ++ edge_if (k == g) edge
row_of-more pairs k edge g = ap (map (λ (pair : ℕ × ℕ). pair.1)) (filter-append (λ (pair : ℕ × ℕ). pair.0 == g) pairs ((k, edge) ∷ [])) ∙ (map-append (λ (pair : ℕ × ℕ). pair.1) (filter (λ (pair : ℕ × ℕ). pair.0 == g) pairs) _
    ∙ ap (λ (l : List ℕ). row_of pairs g ++ l) (elim (cases_Bool (k == g)) [
      | inl same ↦ ap (map (λ (pair : ℕ × ℕ). pair.1)) (cond-true (k == g) ((k, edge) ∷ []) [] same) ∙ sym (cond-true (k == g) (edge ∷ []) [] same)
      | inr other ↦ ap (map (λ (pair : ℕ × ℕ). pair.1)) (cond-false (k == g) ((k, edge) ∷ []) [] other) ∙ sym (cond-false (k == g) (edge ∷ []) [] other)
    ]))

-- a group of a rising list is none of those before it
not_before : (gs : List ℕ) (i : ℕ) → is_rising nat_lt gs ≡ true → i < length gs → is_in (get_or gs i 0) (take i gs) ≡ false
not_before [] i up lt = absurd (omega arith)
not_before (x ∷ gs) zero up lt = refl
not_before (x ∷ gs) (suc i) up lt =
    let less : x < get_or gs i 0 = ltb-true x (get_or gs i 0) (rises nat_lt 0 (x ∷ gs) 0 (suc i) up (omega arith) lt) in
    ap (λ b. b || is_in (get_or gs i 0) (take i gs)) (ne_eqb x (get_or gs i 0) (λ same. omega (arith, less, same))) ∙ not_before gs i (and_parts _ _ up).1 (omega (arith, lt))

module _ (test : ℕ → Bool) (edge : ℕ) (gs : List ℕ) (i : ℕ) (lt : i < length gs) (old kept : List (ℕ × ℕ)) (so_far : GainsTo test edge (take i gs) old kept) where
  abbrev x : ℕ
  x = get_or gs i 0

  in_more : (g : ℕ) → is_in g (take (i + 1) gs) ≡ (is_in g (take i gs) || ((x == g) || false))
  in_more g = ap (is_in g) (take_more gs i 0 lt) ∙ list_any-append (λ m. m == g) (take i gs) (x ∷ [])

  -- a group that does not pass
  pub gains_none : test x ≡ false → GainsTo test edge (take (i + 1) gs) old kept
  gains_none fails g = so_far g ∙ ap (λ b. row_of old g ++ edge_if b edge) (elim (cases_eq x g) [
    | inl same ↦ (let no : test g ≡ false = subst (λ k. test k ≡ false) same fails in and_right (is_in g (take i gs)) (test g) no ∙ sym (and_right (is_in g (take (i + 1) gs)) (test g) no))
    | inr other ↦ ap (λ b. b && test g) (sym (in_more g ∙ (ap (λ b. is_in g (take i gs) || (b || false)) (ne_eqb x g other) ∙ or_none (is_in g (take i gs)))))
  ])

  -- a group that does
  pub gains_one : is_rising nat_lt gs ≡ true → test x ≡ true → (new : List (ℕ × ℕ)) → new ≡ kept ++ (x, edge) ∷ [] → GainsTo test edge (take (i + 1) gs) old new
  gains_one up pass new is g = ap (λ (l : List (ℕ × ℕ)). row_of l g) is ∙ (row_of-more kept x edge g ∙ (ap (λ l. l ++ edge_if (x == g) edge) (so_far g) ∙ elim (cases_eq x g) [
    | inl same ↦
        (let none : (is_in g (take i gs) && test g) ≡ false = subst (λ k. (is_in k (take i gs) && test k) ≡ false) same (ap (λ b. b && test x) (not_before gs i up lt)) in
        let some : (is_in g (take (i + 1) gs) && test g) ≡ true = and_from (is_in g (take (i + 1) gs)) (test g) (in_more g ∙ (ap (λ b. is_in g (take i gs) || (b || false)) (eq-eqb x g same) ∙ or_true (is_in g (take i gs)))) (subst (λ k. test k ≡ true) same pass) in
        ap (λ b. (row_of old g ++ edge_if b edge) ++ edge_if (x == g) edge) none ∙ (ap₂ (λ l b. l ++ edge_if b edge) (append-nil (row_of old g)) (eq-eqb x g same) ∙ ap (λ b. row_of old g ++ edge_if b edge) (sym some)))
    | inr other ↦
        (let as_before : (is_in g (take (i + 1) gs) && test g) ≡ (is_in g (take i gs) && test g) = ap (λ b. b && test g) (in_more g ∙ (ap (λ b. is_in g (take i gs) || (b || false)) (ne_eqb x g other) ∙ or_none (is_in g (take i gs)))) in
        ap (λ b. (row_of old g ++ edge_if (is_in g (take i gs) && test g) edge) ++ edge_if b edge) (ne_eqb x g other) ∙ (append-nil _ ∙ ap (λ b. row_of old g ++ edge_if b edge) (sym as_before)))
  ]))

-- a pair more, whose group is in range
pub all_more : (count : ℕ) (pairs new : List (ℕ × ℕ)) (g edge : ℕ) → new ≡ pairs ++ (g, edge) ∷ [] → All (λ (pair : ℕ × ℕ). pair.0 < count) pairs → g < count → All (λ (pair : ℕ × ℕ). pair.0 < count) new
all_more count pairs new g edge is olds fits k d lt = elim (cases_lt k (length pairs)) [
  | inl before ↦ subst (λ (pair : ℕ × ℕ). pair.0 < count) (sym (ap (λ (l : List (ℕ × ℕ)). get_or l k d) is ∙ get_or_append_left pairs ((g, edge) ∷ []) d k before)) (olds k d before)
  | inr past ↦ (let last : k ≡ length pairs = omega (arith, lt, ap length is, length-append pairs ((g, edge) ∷ []), past) in
      subst (λ (pair : ℕ × ℕ). pair.0 < count) (sym (ap (λ (l : List (ℕ × ℕ)). get_or l k d) is ∙ (ap (λ m. get_or (pairs ++ (g, edge) ∷ []) m d) last ∙ get_or-append_seam pairs (g, edge) [] d))) fits)
]

-- one edge more among those that pass
pub filter_step : (p : ℕ → Bool) (e : ℕ) → filter p (numbers (e + 1)) ≡ filter p (numbers e) ++ edge_if (p e) e
filter_step p e = ap (filter p) (range_more 0 e e (omega arith)) ∙ filter-append p (numbers e) (e ∷ [])
