-- The way down from an edge, edge after edge.
use Rattle.std.proofs.Common.{◌≡◌, ◌≢◌, ℕ, ◌+◌, ◌<◌, List, [], ◌∷◌, ◌++◌, length, get_or, refl, sym, ◌∙◌, ap, subst, inl, inr, arith, Option, Some, None}
use Rattle.std.proofs.{Math.Seq.get_or-append_seam, lemmas.Bool.cases_eq}
use Rattle.std.proofs.lemmas.List.{get_or_append_left, length-append}
use Rattle.loc_spec_plane.specs.Tables.{Table}
use Rattle.loc_cover.specs.Numbered.{IsKnownUnder, IsPath}

-- edges from the first one down to the last, each just above the next
pub record IsDescent (t : Table) (below : List (Option ℕ)) (first : ℕ) (path : List ℕ) (last : ℕ) : Type 0 where
  pub within : (i : ℕ) → i < length path → get_or path i 0 < length t.ends
  pub links : (i : ℕ) → i + 1 < length path → get_or below (get_or path i 0) None ≡ Some (get_or path (i + 1) 0)
  pub ends : (i : ℕ) → i + 1 ≡ length path → get_or path i 0 ≡ last
  pub begins : get_or path 0 0 ≡ first
  pub some : 0 < length path
  pub last_within : last < length t.ends

-- from the first edge
pub descent_start : (t : Table) (below : List (Option ℕ)) (first : ℕ) (path : List ℕ) → first < length t.ends → path ≡ first ∷ [] → IsDescent t below first path first
descent_start t below first path lt is = subst (λ xs. IsDescent t below first xs first) (sym is) (record {
  within = λ i fits. (let at : 0 ≡ i = omega arith in subst (λ k. get_or (first ∷ []) k 0 < length t.ends) at lt);
  links = λ i fits. absurd (omega arith);
  ends = λ i fits. (let at : 0 ≡ i = omega arith in ap (λ k. get_or (first ∷ []) k 0) (sym at));
  begins = refl;
  some = omega arith;
  last_within = lt;
})

-- one edge further down
pub descent_more : (t : Table) (below : List (Option ℕ)) (first last next : ℕ) (path longer : List ℕ) → IsDescent t below first path last → get_or below last None ≡ Some next → next < length t.ends → longer ≡ path ++ next ∷ [] → IsDescent t below first longer next
descent_more t below first last next path longer down link lt is = subst (λ xs. IsDescent t below first xs next) (sym is) (record {
  within = λ i fits. elim (cases_eq i (length path)) [
    | inl same ↦ subst (λ n. n < length t.ends) (sym (at_end i same)) lt
    | inr other ↦ (let ne : i ≢ length path = other in let old : i < length path = omega (arith, size) in subst (λ n. n < length t.ends) (sym (kept i old)) (down.within i old))
  ];
  links = λ i fits. elim (cases_eq (i + 1) (length path)) [
    | inl same ↦ (ap (λ n. get_or below n None) (kept i (omega (arith, same)) ∙ down.ends i same) ∙ (link ∙ ap (λ n. Some n) (sym (at_end (i + 1) same))))
    | inr other ↦ (let ne : i + 1 ≢ length path = other in let old : i + 1 < length path = omega (arith, size) in ap (λ n. get_or below n None) (kept i (omega arith)) ∙ (down.links i old ∙ ap (λ n. Some n) (sym (kept (i + 1) old))))
  ];
  ends = λ i fits. at_end i (omega (arith, size));
  begins = kept 0 down.some ∙ down.begins;
  some = omega (arith, size);
  last_within = lt;
})
  where
    size : length (path ++ next ∷ []) ≡ length path + 1
    size = length-append path (next ∷ [])

    kept : (i : ℕ) → i < length path → get_or (path ++ next ∷ []) i 0 ≡ get_or path i 0
    kept i old = get_or_append_left path (next ∷ []) 0 i old

    at_end : (i : ℕ) → i ≡ length path → get_or (path ++ next ∷ []) i 0 ≡ next
    at_end i same = ap (λ k. get_or (path ++ next ∷ []) k 0) same ∙ get_or-append_seam path next [] 0

-- where what is under the last is known
pub descent_end : (t : Table) (below numbers : List (Option ℕ)) (first last : ℕ) (path : List ℕ) → IsDescent t below first path last → IsKnownUnder numbers (get_or below last None) → IsPath t below numbers first path
descent_end t below numbers first last path down known = record {
  within = down.within;
  links = down.links;
  foot = λ i at. subst (λ n. IsKnownUnder numbers (get_or below n None)) (sym (down.ends i at)) known;
  begins = λ _. down.begins;
  ends = λ none. absurd (let some = down.some in omega arith);
}

module _ {t : Table} {below numbers : List (Option ℕ)} {first : ℕ} {path : List ℕ} (rest : List ℕ) (next : ℕ) (way : IsPath t below numbers first path) (is : path ≡ rest ++ next ∷ []) where
  size : length path ≡ length rest + 1
  size = ap length is ∙ length-append rest (next ∷ [])

  last : (i : ℕ) → i ≡ length rest → get_or path i 0 ≡ next
  last i same = ap (λ xs. get_or xs i 0) is ∙ (ap (λ k. get_or (rest ++ next ∷ []) k 0) same ∙ get_or-append_seam rest next [] 0)

  before : (i : ℕ) → i < length rest → get_or path i 0 ≡ get_or rest i 0
  before i old = ap (λ xs. get_or xs i 0) is ∙ get_or_append_left rest (next ∷ []) 0 i old

  -- the last edge of a path is one of the table, and what is under it is known
  pub last_within : next < length t.ends
  last_within = subst (λ n. n < length t.ends) (last (length rest) refl) (way.within (length rest) (omega (arith, size)))

  pub known_under_last : IsKnownUnder numbers (get_or below next None)
  known_under_last = subst (λ n. IsKnownUnder numbers (get_or below n None)) (last (length rest) refl) (way.foot (length rest) (sym size))

  -- once its list is known, the edges before it are a path
  pub path_shorter : (more : List (Option ℕ)) → get_or more next None ≢ None → IsPath t below more first rest
  path_shorter more known = record {
    within = λ i fits. subst (λ n. n < length t.ends) (before i fits) (way.within i (omega (arith, size)));
    links = λ i fits. (ap (λ n. get_or below n None) (sym (before i (omega arith))) ∙ (way.links i (omega (arith, size)) ∙ ap (λ n. Some n) (before (i + 1) fits)));
    foot = λ i at. (let under = ap (λ n. get_or below n None) (sym (before i (omega (arith, at)))) ∙ (way.links i (omega (arith, size, at)) ∙ ap (λ n. Some n) (last (i + 1) at)) in
        subst (IsKnownUnder more) (sym under) known);
    begins = λ some. (sym (before 0 some) ∙ way.begins (omega (arith, size)));
    ends = λ none. (let begins : next ≡ first = sym (last 0 (sym none)) ∙ way.begins (omega (arith, size)) in subst (λ n. get_or more n None ≢ None) begins known);
  }
