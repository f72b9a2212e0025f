-- The edges just below those that begin at a corner, noted one after another.
use Rattle.std.proofs.Common.{◌≡◌, ℕ, ◌+◌, ◌<◌, ◌≤◌, false, List, [], ◌∷◌, ◌++◌, length, get_or, set, refl, sym, ◌∙◌, ap, ap₂, subst, ◌⊎◌, inl, inr, arith, Option, Some, None, slice_get}
use Rattle.std.proofs.lemmas.Bool.{cases_eq}
use Rattle.std.proofs.lemmas.List.{get_or-set_same, get_or-set_other, length-set}
use Rattle.loc_spec_plane.specs.{Lists.is_in, Tables.Table, Tables.lo_of}
use Rattle.loc_edges.specs.Ending.{IsBeginning}
use Rattle.loc_status.specs.declared.status.Beside.{Beside}
use Rattle.loc_status.specs.Lists.{IsBeside, IsInserted, IsNextAbove, IsNextBelow}
use Rattle.loc_sweep.specs.Course.{AreNextBelow}
use Rattle.loc_sweep.proofs.Chains.{first_behind}

-- a new edge changes what stands just below another only where it comes to stand there itself
still_below : (d e : ℕ) (front back : List ℕ) (below : Option ℕ) → IsNextBelow d (front ++ back) below → (slice_get back 0 ≡ Some d → ⊥) → IsNextBelow d (front ++ e ∷ back) below
still_below d e [] back None (rest, is) apart = absurd (apart (ap (λ es. slice_get es 0) is))
still_below d e (a ∷ front) back None (rest, is) apart = let first : a ≡ d = cc in (front ++ e ∷ back, ap (λ k. k ∷ front ++ e ∷ back) first)
still_below d e [] back (Some b) (before, rest, is) apart = (e ∷ before, rest, ap (λ es. e ∷ es) is)
still_below d e (a ∷ front) back (Some b) ([], rest, is) apart =
    let first : a ≡ b = cc in
    let later : front ++ back ≡ d ∷ rest = cc in
    let next = still_below d e front back None (rest, later) apart in
    ([], next.0, ap₂ (λ k es. k ∷ es) first next.1)
still_below d e (a ∷ front) back (Some b) (n ∷ before, rest, is) apart =
    let first : a ≡ n = cc in
    let later : front ++ back ≡ before ++ b ∷ d ∷ rest = cc in
    let next = still_below d e front back (Some b) (before, rest, later) apart in
    (n ∷ next.0, next.1, ap₂ (λ k es. k ∷ es) first next.2)

-- a number is named, or not
named : (o : Option ℕ) (d : ℕ) → (o ≡ Some d) ⊎ (o ≡ Some d → ⊥)
named None d = inr (λ is. cc)
named (Some a) d = elim (cases_eq a d) [ inl same ↦ inl (ap (λ k. Some k) same) | inr other ↦ inr (λ is. other (let same : a ≡ d = cc in same)) ]

-- the edges from the first on and before number k are noted, and what was noted of those that begin elsewhere is as it was
pub record AreNoted (t : Table) (c first k : ℕ) (list : List ℕ) (old new : List (Option ℕ)) : Type 0 where
  pub as_many : length new ≡ length old
  pub are : (e : ℕ) → first ≤ e → e < k → IsNextBelow e list (get_or new e None)
  pub others : (e : ℕ) → (lo_of t e ≡ c → ⊥) → get_or new e None ≡ get_or old e None

-- none is noted yet
pub none_noted : (t : Table) (c first : ℕ) (list : List ℕ) (old : List (Option ℕ)) → AreNoted t c first first list old old
none_noted t c first list old = record { as_many = refl; are = λ e from to. absurd (omega (arith, from, to)); others = λ e elsewhere. refl }

-- one more, which was noted below the edge above it too where that begins at the same corner
pub one_noted : (t : Table) (c first e : ℕ) (es es' : List ℕ) (beside : Beside) (old mid raised new : List (Option ℕ)) → ((d : ℕ) → first ≤ d → d ≤ e → lo_of t d ≡ c) → first ≤ e → AreNoted t c first e es old mid
    → is_in e es ≡ false → IsInserted t e es es' → IsBeside e es' beside → length raised ≡ length mid → ((a : ℕ) → beside.above ≡ Some a → lo_of t a ≡ c → get_or raised a None ≡ Some e)
    → ((d : ℕ) → (beside.above ≡ Some d → ⊥) → get_or raised d None ≡ get_or mid d None) → ((d : ℕ) → (lo_of t d ≡ c → ⊥) → get_or raised d None ≡ get_or mid d None)
    → e < length raised → new ≡ set raised e beside.below → AreNoted t c first (e + 1) es' old new
one_noted t c first e es es' beside old mid raised new begin from noted off come stands as_many above others elsewhere fits written = record {
  as_many = ap length written ∙ (length-set raised e beside.below ∙ (as_many ∙ noted.as_many));
  are = λ d low high. elim (cases_eq d e) [
    | inl same ↦ subst (λ k. IsNextBelow k es' (get_or new k None)) (sym same) (subst (λ o. IsNextBelow e es' o) (sym (ap (λ xs. get_or xs e None) written ∙ get_or-set_same raised e beside.below None fits)) stands.below)
    | inr other ↦ subst (λ o. IsNextBelow d es' o) (sym (unwritten d other)) (earlier d low (omega (arith, high, other)))
  ];
  others = λ d outside. unwritten d (λ same. outside (begin d (omega (arith, same, from)) (omega (arith, same)))) ∙ (elsewhere d outside ∙ noted.others d outside);
}
  where
    unwritten : (d : ℕ) → (d ≡ e → ⊥) → get_or new d None ≡ get_or raised d None
    unwritten d other = ap (λ xs. get_or xs d None) written ∙ get_or-set_other raised e d beside.below None other

    earlier : (d : ℕ) → first ≤ d → d < e → IsNextBelow d es' (get_or raised d None)
    earlier d low high = elim (named beside.above d) [
      | inl is ↦ subst (λ o. IsNextBelow d es' o) (sym (above d is (begin d low (omega (arith, high))))) (let next : IsNextAbove e es' (Some d) = subst (λ o. IsNextAbove e es' o) is stands.above in next)
      | inr apart ↦ subst (λ o. IsNextBelow d es' o) (sym (others d apart)) (subst (λ ds. IsNextBelow d ds (get_or mid d None)) (sym come.new_is)
          (still_below d e come.front come.back (get_or mid d None) (subst (λ ds. IsNextBelow d ds (get_or mid d None)) come.old_is (noted.are d low high))
          (λ at. apart (sym (first_behind t e es es' off come beside.above stands.above) ∙ at))))
    ]

-- at the end all are
pub all_noted : (t : Table) (c first past : ℕ) (list : List ℕ) (old new : List (Option ℕ)) → IsBeginning t c first past → AreNoted t c first past list old new → AreNextBelow t c list old new
all_noted t c first past list old new beginning noted = record {
  as_many = noted.as_many;
  are = λ e fits here. (let inside = (beginning.exact e fits).0 here in noted.are e inside.0 inside.1);
  others = noted.others;
}
