-- The kinds of flaws put together in their order: the least of a kind is the first of all where all that is judged before is right.
use Rattle.std.proofs.Common.{◌≡◌, ◌≢◌, ℕ, ◌<◌, ◌≤◌, true, [], ◌∷◌, length, get_or, refl, sym, ◌∙◌, subst, arith}
use Rattle.std.specs.Prelude.{IsTrue}
use Rattle.loc_spec_plane.specs.{Lists.is_in, Places.IsFloor, Covers.cover_above}
use Rattle.loc_spec_plane.specs.Tables.{AllEnds, AllEven, NoConflict, corner, is_on_source}
use Rattle.loc_spec_index.specs.Content.{Content, cover_numbers, cover_of_edge, floor_of_corner, table_in}
use Rattle.loc_spec_index.specs.TrueIndex.{IsTrueVersion}
use Rattle.loc_spec_index.specs.Flaws.{Flaw, HasFlaw, rank, IsFirst, lone, bare, uneven, conflicting, wrong_floor, wrong_cover, spare_cover, wrong_source, deep, wrong_list}
use Rattle.loc_spec_index.proofs.Refutes.{no_lone, no_bare, no_uneven, no_conflicting, no_wrong_floor, no_wrong_cover, no_spare_cover, no_wrong_source}
use Rattle.loc_laws_index.proofs.FlawKinds as laws
use Rattle.loc_verify.specs.declared.fault.VerifyFault.{VerifyFault}
use Rattle.loc_verify.specs.declared.fault.VerifyFault.TheVariants.{Lone, Bare, Uneven, Conflict, WrongFloor, WrongCover, SpareCover, WrongSource, Deep, WrongList, NoMemory}
use Rattle.loc_verify.specs.Judged.{IsFaultOf, IsJudged, IsLeastOf, IsVersionFault, kind_of}

-- the kinds of the judge are those of the laws
same_kind : (flaw : Flaw) → kind_of flaw ≡ laws.kind_of flaw
same_kind (lone n) = refl
same_kind (bare e) = refl
same_kind (uneven n f) = refl
same_kind (conflicting a b) = refl
same_kind (wrong_floor n) = refl
same_kind (wrong_cover e) = refl
same_kind (spare_cover n) = refl
same_kind (wrong_source e) = refl
same_kind (deep i) = refl
same_kind (wrong_list i p) = refl

module _ (c : Content) where
  -- ---- where all that is judged before a kind is right there is no flaw of an earlier kind
  pub none_below : (k : ℕ) → k ≤ 8 → (0 < k → AllEnds (table_in c)) → (1 < k → (e : ℕ) → e < length c.edges → get_or (table_in c).marks e [] ≢ []) → (2 < k → AllEven (table_in c)) → (3 < k → NoConflict (table_in c))
      → (4 < k → (n : ℕ) → n < length c.corners → IsFloor (table_in c) (corner (table_in c) n) (floor_of_corner c n)) → (5 < k → (e : ℕ) → e < length c.edges → cover_of_edge c e ≡ cover_above (table_in c) e)
      → (6 < k → (n : ℕ) → n < length c.covers → IsTrue (is_in n (cover_numbers c))) → (7 < k → (e : ℕ) → e < length c.edges → IsTrue (is_on_source (table_in c) e)) → (other : Flaw) → HasFlaw c other → kind_of other < k → ⊥
  none_below k most ended marked even apart floors covers named sources (lone n) h less = no_lone c (ended less) n h
  none_below k most ended marked even apart floors covers named sources (bare e) h less = no_bare c (marked less) e h
  none_below k most ended marked even apart floors covers named sources (uneven n f) h less = no_uneven c (even less) n f h
  none_below k most ended marked even apart floors covers named sources (conflicting a b) h less = no_conflicting c (apart less) (laws.as_many c) a b h
  none_below k most ended marked even apart floors covers named sources (wrong_floor n) h less = no_wrong_floor c (floors less) n h
  none_below k most ended marked even apart floors covers named sources (wrong_cover e) h less = no_wrong_cover c (covers less) e h
  none_below k most ended marked even apart floors covers named sources (spare_cover n) h less = no_spare_cover c (named less) n h
  none_below k most ended marked even apart floors covers named sources (wrong_source e) h less = no_wrong_source c (sources less) e h
  none_below k most ended marked even apart floors covers named sources (deep i) h less = omega (arith, most, less)
  none_below k most ended marked even apart floors covers named sources (wrong_list i p) h less = omega (arith, most, less)

  -- so the least of the kind is the first of all
  module _ (k : ℕ) (none : (other : Flaw) → HasFlaw c other → kind_of other < k → ⊥) where
    first_is : (flaw : Flaw) → IsLeastOf c k flaw → IsFirst c flaw
    first_is flaw least = laws.first_from c k (λ other h less. none other h (subst (λ n. n < k) (sym (same_kind other)) less)) flaw (sym (same_kind flaw) ∙ least.is_of) least.there (λ other h same. least.least other h (same_kind other ∙ same))

    pub judged : (fault : VerifyFault) → IsFaultOf c k fault → IsJudged c fault
    judged (Lone n) least = first_is (lone n) least
    judged (Bare e) least = first_is (bare e) least
    judged (Uneven n f) least = first_is (uneven n f) least
    judged (Conflict a b meeting) least = (first_is (conflicting a b) least.0, least.1)
    judged (WrongFloor n) least = first_is (wrong_floor n) least
    judged (WrongCover e) least = first_is (wrong_cover e) least
    judged (SpareCover n) least = first_is (spare_cover n) least
    judged (WrongSource e) least = first_is (wrong_source e) least
    judged (Deep i) least = first_is (deep i) least
    judged (WrongList i p) least = first_is (wrong_list i p) least
    judged NoMemory least = tt

-- ---- the least of a kind
pub least_of : (c : Content) {kind : ℕ} (flaw : Flaw) → kind_of flaw ≡ kind → HasFlaw c flaw → laws.NoneBefore c kind (rank flaw) → IsLeastOf c kind flaw
least_of c flaw is there least = record { is_of = is; there = there; least = λ other h same. least other h (sym (same_kind other) ∙ same) }

-- where it has the least number
pub least_at : (c : Content) (kind n : ℕ) → laws.is_named kind ≡ true → kind_of (laws.named kind n) ≡ kind → rank (laws.named kind n) ≡ kind ∷ n ∷ [] → HasFlaw c (laws.named kind n) → ((m : ℕ) → m < n → HasFlaw c (laws.named kind m) → ⊥) → IsLeastOf c kind (laws.named kind n)
least_at c kind n is of place there none = least_of c (laws.named kind n) of there (subst (laws.NoneBefore c kind) (sym place) (laws.least_named c kind n is none))

pub least_version : (c : Content) (n : ℕ) → n < length c.corners → ((m : ℕ) → m < n → IsTrueVersion c m) → (fault : VerifyFault) → IsVersionFault c n fault → IsFaultOf c 8 fault
least_version c n fits right (Deep j) (same, is) = subst (λ k. IsLeastOf c 8 (deep k)) (sym same) (least_of c (deep n) refl (fits, is) (laws.least_version c n right))
least_version c n fits right (WrongList j p) (same, is) = subst (λ k. IsLeastOf c 8 (wrong_list k p)) (sym same) (least_of c (wrong_list n p) refl (fits, is) (laws.least_version c n right))
least_version c n fits right NoMemory is = tt
least_version c n fits right _ is = absurd is
