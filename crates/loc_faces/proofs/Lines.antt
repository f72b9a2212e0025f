-- The leaders of the cycles of a face: one of an outer cycle, but for face 0, and those that hang in it.
use Rattle.std.proofs.Common.{◌≡◌, ◌≢◌, ℕ, zero, suc, ◌+◌, ◌-◌, ◌<◌, ◌≤◌, Bool, true, false, not, ◌&&◌, List, [], ◌∷◌, ◌++◌, length, get_or, filter, refl, sym, ◌∙◌, ap, subst, inl, inr, arith, add-one, length-append}
use Rattle.std.specs.Prelude.{◌==◌, All, Some, count_by, slice_get}
use Rattle.std.proofs.lemmas.Bool.{cases_eq, cases_Bool, and_from, and_left, and_right, and_parts, eq-eqb, ne_eqb, eqb-true, not-true}
use Rattle.std.proofs.lemmas.List.{get_or_at, get_or_append_left}
use Rattle.std.proofs.{lemmas.List.FromFn.get_or-map-range_with_len, lemmas.List.Sums.length-filter}
use Rattle.std.proofs.lemmas.Option.{get_or_from_slice_get}
use Rattle.loc_spec_plane.specs.{Lists.numbers, Tables.Table, HalfEdges.half_edge_count, HalfEdges.leader}
use Rattle.loc_spec_plane.specs.Faces.{hangs, leads_face}
use Rattle.loc_faces.specs.Boundaries.{inner_leaders, leads_hanging, outer_leaders}
use Rattle.loc_faces.specs.FaceLists.{FaceLists, AreFaces, face_in}
use Rattle.loc_laws_rays.proofs.Picked.{all_members, kept_below}
use Rattle.loc_faces.proofs.Numbering.{filter_more, filter_past}

-- two tests that agree below n
pub filter_same : (p q : ℕ → Bool) (n : ℕ) → ((h : ℕ) → h < n → p h ≡ q h) → filter p (numbers n) ≡ filter q (numbers n)
filter_same p q zero agree = refl
filter_same p q (suc n) agree = subst (λ k. filter p (numbers k) ≡ filter q (numbers k)) (add-one n) (elim (cases_Bool (p n)) [
  | inl pass ↦ filter_more p n pass ∙ (ap (λ l. l ++ n ∷ []) (filter_same p q n (λ h lt. agree h (omega (arith, lt)))) ∙ sym (filter_more q n (sym (agree n (omega arith)) ∙ pass)))
  | inr fails ↦ filter_past p n fails ∙ (filter_same p q n (λ h lt. agree h (omega (arith, lt))) ∙ sym (filter_past q n (sym (agree n (omega arith)) ∙ fails)))
])

-- a test that none below n passes
pub filter_none : (p : ℕ → Bool) (n : ℕ) → ((h : ℕ) → h < n → p h ≡ false) → filter p (numbers n) ≡ []
filter_none p zero none = refl
filter_none p (suc n) none = subst (λ k. filter p (numbers k) ≡ []) (add-one n) (filter_past p n (none n (omega arith)) ∙ filter_none p n (λ h lt. none h (omega (arith, lt))))

-- of the numbers that pass, those that have k such before them
module _ (p : ℕ → Bool) (k : ℕ) where
  abbrev ranked : ℕ → Bool
  ranked h = p h && (suc (count_by p (numbers h)) == suc k)

  ranked_none : (n : ℕ) → length (filter p (numbers n)) ≤ k → filter ranked (numbers n) ≡ []
  ranked_none n few = filter_none ranked n (λ h lt. elim (cases_Bool (p h)) [
    | inl pass ↦ and_right (p h) (suc (count_by p (numbers h)) == suc k) (ne_eqb (suc (count_by p (numbers h))) (suc k) (λ same. (let less = earlier n h lt pass in let is : suc (count_by p (numbers h)) ≡ suc k = same in omega (arith, less, is, few))))
    | inr fails ↦ and_left (p h) (suc (count_by p (numbers h)) == suc k) fails
  ])
    where
      earlier : (n h : ℕ) → h < n → p h ≡ true → count_by p (numbers h) < length (filter p (numbers n))
      earlier zero h lt pass = absurd (omega arith)
      earlier (suc n) h lt pass = subst (λ m. count_by p (numbers h) < length (filter p (numbers m))) (add-one n) (elim (cases_eq h n) [
        | inl last ↦ (let passes : p n ≡ true = subst (λ m. p m ≡ true) last pass in
            let long = ap length (filter_more p n passes) ∙ length-append (filter p (numbers n)) (n ∷ []) in
            let same : count_by p (numbers h) ≡ count_by p (numbers n) = ap (λ m. count_by p (numbers m)) last in
            omega (arith, long, length-filter p (numbers n), same))
        | inr other ↦ (let ne : h ≢ n = other in let rest = earlier n h (omega (arith, ne, lt)) pass in elim (cases_Bool (p n)) [
          | inl passes ↦ (let long = ap length (filter_more p n passes) ∙ length-append (filter p (numbers n)) (n ∷ []) in omega (arith, rest, long))
          | inr fails ↦ (let long = ap length (filter_past p n fails) in omega (arith, rest, long))
        ])
      ])

  ranked_more : (n : ℕ) → (k < length (filter p (numbers n)) → filter ranked (numbers n) ≡ get_or (filter p (numbers n)) k 0 ∷ []) → k < length (filter p (numbers (n + 1))) → filter ranked (numbers (n + 1)) ≡ get_or (filter p (numbers (n + 1))) k 0 ∷ []
  ranked_more n before less = elim (cases_Bool (p n)) [
    | inl pass ↦ (let long = ap length (filter_more p n pass) ∙ length-append (filter p (numbers n)) (n ∷ []) in
        let many = length-filter p (numbers n) in
        elim (cases_eq k (length (filter p (numbers n)))) [
          | inl last ↦ (let is : k ≡ length (filter p (numbers n)) = last in
              filter_more ranked n (and_from (p n) (suc (count_by p (numbers n)) == suc k) pass (eq-eqb (suc (count_by p (numbers n))) (suc k) (omega (arith, is, many))))
              ∙ (ap (λ l. l ++ n ∷ []) (ranked_none n (omega (arith, is))) ∙ ap (λ m. m ∷ []) (sym (ap (λ l. get_or l k 0) (filter_more p n pass) ∙ get_or_at (filter p (numbers n)) n [] 0 k (sym last)))))
          | inr other ↦ (let ne : k ≢ length (filter p (numbers n)) = other in
              let early : k < length (filter p (numbers n)) = omega (arith, ne, less, long) in
              filter_past ranked n (and_right (p n) (suc (count_by p (numbers n)) == suc k) (ne_eqb (suc (count_by p (numbers n))) (suc k) (λ same. (let is : suc (count_by p (numbers n)) ≡ suc k = same in omega (arith, is, many, ne)))))
              ∙ (before early ∙ ap (λ m. m ∷ []) (sym (ap (λ l. get_or l k 0) (filter_more p n pass) ∙ get_or_append_left (filter p (numbers n)) (n ∷ []) 0 k early))))
        ])
    | inr fails ↦ (let long = ap length (filter_past p n fails) in
        filter_past ranked n (and_left (p n) (suc (count_by p (numbers n)) == suc k) fails)
        ∙ (before (omega (arith, less, long)) ∙ ap (λ l. get_or l k 0 ∷ []) (sym (filter_past p n fails))))
  ]

  pub ranked_one : (n : ℕ) → k < length (filter p (numbers n)) → filter ranked (numbers n) ≡ get_or (filter p (numbers n)) k 0 ∷ []
  ranked_one zero lt = absurd (omega arith)
  ranked_one (suc n) lt = subst (λ m. k < length (filter p (numbers m)) → filter ranked (numbers m) ≡ get_or (filter p (numbers m)) k 0 ∷ []) (add-one n) (ranked_more n (ranked_one n)) lt

module _ (t : Table) (next : ℕ → ℕ) (lists : FaceLists) (are : AreFaces t next lists) where
  -- the leader of an outer cycle has the number of that
  leader_face : (h : ℕ) → h < half_edge_count t → leads_face t next h ≡ true → face_in lists h ≡ suc (count_by (leads_face t next) (numbers h))
  leader_face h lt leads =
      let parts = and_parts (leader t next h == h) (not (hangs t next h)) leads in
      are.faces.outer h lt (not-true (hangs t next h) parts.1) ∙ ap (λ l. suc (count_by (leads_face t next) (numbers l))) (eqb-true (leader t next h) h parts.0)

  by_rank : (f h : ℕ) → h < half_edge_count t → (leads_face t next h && (face_in lists h == f)) ≡ (leads_face t next h && (suc (count_by (leads_face t next) (numbers h)) == f))
  by_rank f h lt = elim (cases_Bool (leads_face t next h)) [
    | inl leads ↦ ap (λ m. leads_face t next h && (m == f)) (leader_face h lt leads)
    | inr none ↦ and_left (leads_face t next h) (face_in lists h == f) none ∙ sym (and_left (leads_face t next h) (suc (count_by (leads_face t next) (numbers h)) == f) none)
  ]

  -- face 0 has no outer cycle
  pub no_outer : outer_leaders t next (face_in lists) 0 ≡ []
  no_outer = filter_same (λ h. leads_face t next h && (face_in lists h == 0)) (λ h. leads_face t next h && (suc (count_by (leads_face t next) (numbers h)) == 0)) (half_edge_count t) (by_rank 0)
      ∙ filter_none (λ h. leads_face t next h && (suc (count_by (leads_face t next) (numbers h)) == 0)) (half_edge_count t) (λ h lt. and_right (leads_face t next h) (suc (count_by (leads_face t next) (numbers h)) == 0) (ne_eqb (suc (count_by (leads_face t next) (numbers h))) 0 (λ same. (let is : suc (count_by (leads_face t next) (numbers h)) ≡ 0 = same in omega (arith, is)))))

  -- another has one
  pub one_outer : (k : ℕ) → k < length lists.outers → outer_leaders t next (face_in lists) (suc k) ≡ get_or lists.outers k 0 ∷ []
  one_outer k lt = filter_same (λ h. leads_face t next h && (face_in lists h == suc k)) (λ h. leads_face t next h && (suc (count_by (leads_face t next) (numbers h)) == suc k)) (half_edge_count t) (by_rank (suc k))
      ∙ (ranked_one (leads_face t next) k (half_edge_count t) (subst (λ l. k < length l) are.outers lt) ∙ ap (λ l. get_or l k 0 ∷ []) (sym are.outers))

-- numbers that pass a test are below n
pub filter_within : (p : ℕ → Bool) (n : ℕ) → All (λ h. h < n) (filter p (numbers n))
filter_within p n = all_members (λ h. h < n) (filter p (numbers n)) (λ h here. (kept_below p n h here).0)

-- the outer cycles and face 0 are all faces
pub outers_many : (t : Table) (next : ℕ → ℕ) (lists : FaceLists) → AreFaces t next lists → length lists.outers + 1 ≡ lists.count
outers_many t next lists are =
    let listed = ap length are.outers ∙ length-filter (leads_face t next) (numbers (half_edge_count t)) in
    omega (arith, listed, are.count)

-- each face but face 0 has one outer cycle
pub outer_many : (t : Table) (next : ℕ → ℕ) (lists : FaceLists) (are : AreFaces t next lists) (f : ℕ) → 0 < f → f < lists.count → length (outer_leaders t next (face_in lists) f) ≡ 1
outer_many t next lists are zero some below = absurd (omega (arith, some))
outer_many t next lists are (suc k) some below = ap length (one_outer t next lists are k (let many = outers_many t next lists are in omega (arith, many, below)))

-- the leaders of a face are half-edges
pub outer_within : (t : Table) (next face : ℕ → ℕ) (f : ℕ) → All (λ h. h < half_edge_count t) (outer_leaders t next face f)
outer_within t next face f = filter_within (λ h. leads_face t next h && (face h == f)) (half_edge_count t)

pub inner_within : (t : Table) (next face : ℕ → ℕ) (f : ℕ) → All (λ h. h < half_edge_count t) (inner_leaders t next face f)
inner_within t next face f = filter_within (λ h. leads_hanging t next h && (face h == f)) (half_edge_count t)

-- the slice of the outer cycle's leader
pub outer_is : (t : Table) (next : ℕ → ℕ) (lists : FaceLists) (are : AreFaces t next lists) (f : ℕ) (slice : List ℕ) → f < lists.count → (f ≡ 0 → slice ≡ []) → (0 < f → slice ≡ get_or lists.outers (f - 1) 0 ∷ []) → slice ≡ outer_leaders t next (face_in lists) f
outer_is t next lists are zero slice below none one = none refl ∙ sym (no_outer t next lists are)
outer_is t next lists are (suc k) slice below none one =
    let at : suc k - 1 ≡ k = omega arith in
    one (omega arith) ∙ (ap (λ i. get_or lists.outers i 0 ∷ []) at ∙ sym (one_outer t next lists are k (omega (arith, outers_many t next lists are, below))))

-- the row of the hanging cycles' leaders
pub inner_is : (t : Table) (next : ℕ → ℕ) (lists : FaceLists) (are : AreFaces t next lists) (f : ℕ) (row : List ℕ) → f < lists.count → slice_get lists.inner f ≡ Some row → row ≡ inner_leaders t next (face_in lists) f
inner_is t next lists are f row below at = sym (get_or_from_slice_get lists.inner f row [] at) ∙ (ap (λ rows. get_or rows f []) are.inner ∙ get_or-map-range_with_len (inner_leaders t next (face_in lists)) 0 lists.count f f [] below (omega arith))
