-- The least flaw of a kind, and what is told of a kind.
use Rattle.std.proofs.Common.{◌≡◌, ℕ, suc, ◌<◌, Bool, true, false, [], ◌∷◌, get_or, sym, ◌∙◌, ap, subst, inl, inr, arith}
use Rattle.std.specs.Prelude.{Option, Some, None}
use Rattle.std.proofs.{lemmas.Bool.cases_lt, lemmas.Option.cond_some}
use Rattle.loc_spec_plane.specs.Lists.{numbers}
use Rattle.loc_spec_index.specs.Content.{Content}
use Rattle.loc_spec_index.specs.Flaws.{Flaw, HasFlaw, IsFirst, rank}
use Rattle.loc_laws_index.proofs.FlawKinds.{kind_of, is_named, named, is_named_so, NoneBelow, NoneBefore, first_from, least_named}
use Rattle.loc_laws_judge.specs.FirstFlaw.{first_some, flaw_if}
use Rattle.loc_laws_judge.proofs.FirstSome.{flaw-none, none_below, some_below}

-- the flaw is there, it is of the kind, and none of the kind comes before it
pub record IsLeastOf (c : Content) (kind : ℕ) (flaw : Flaw) : Type 0 where
  pub is_of : kind_of flaw ≡ kind
  pub there : HasFlaw c flaw
  pub least : NoneBefore c kind (rank flaw)

-- no flaw is of the kind
abbrev pub NoneOf : Content → ℕ → Type 0
NoneOf c kind = (other : Flaw) → HasFlaw c other → kind_of other ≡ kind → ⊥

-- what is found of a kind: where there is none all is right, and else it is the least; where all is right no flaw is of the kind
pub record IsTold (c : Content) (kind : ℕ) (Right : Type 0) (found : Option Flaw) : Type 0 where
  pub right : found ≡ None → Right
  pub least : (flaw : Flaw) → found ≡ Some flaw → IsLeastOf c kind flaw
  pub none : Right → NoneOf c kind

-- none of earlier kinds and none of this one
pub none_further : (c : Content) (kind : ℕ) → NoneBelow c kind → NoneOf c kind → NoneBelow c (suc kind)
none_further c kind below none other h less = elim (cases_lt (kind_of other) kind) [
  | inl earlier ↦ below other h earlier
  | inr later ↦ none other h (omega (arith, less, later))
]

-- the least of a kind is the first where no flaw is of an earlier one
pub first_is : (c : Content) (kind : ℕ) → NoneBelow c kind → (flaw : Flaw) → IsLeastOf c kind flaw → IsFirst c flaw
first_is c kind below flaw least = first_from c kind below flaw least.is_of least.there least.least

-- ---- kinds whose flaws have one number
module _ (c : Content) (kind : ℕ) (is : is_named kind ≡ true) (of : (n : ℕ) → kind_of (named kind n) ≡ kind) (ranks : (n : ℕ) → rank (named kind n) ≡ kind ∷ n ∷ []) where
  module _ (test : ℕ → Bool) (bound : ℕ) (there : (n : ℕ) → n < bound → test n ≡ true → HasFlaw c (named kind n)) (none : (n : ℕ) → test n ≡ false → HasFlaw c (named kind n) → ⊥) where
    -- what the least number tells that passes a test of the flaw
    pub told_named : (Right : Type 0) → (((n : ℕ) → n < bound → test n ≡ false) → Right) → (Right → (n : ℕ) → HasFlaw c (named kind n) → ⊥) → IsTold c kind Right (first_some (λ n. flaw_if (test n) (named kind n)) (numbers bound))
    told_named Right make refute = record {
      right = λ h. make (λ n less. flaw-none (test n) (named kind n) (none_below (λ n. flaw_if (test n) (named kind n)) bound h n less));
      least = λ flaw h.
          (let l = some_below (λ n. flaw_if (test n) (named kind n)) bound flaw h in
          let n = l.number in
          let found = cond_some (test n) (named kind n) flaw l.found in
          subst (IsLeastOf c kind) found.1 (record {
            is_of = of n;
            there = there n l.below found.0;
            least = subst (NoneBefore c kind) (sym (ranks n)) (least_named c kind n is (λ m less. none m (flaw-none (test m) (named kind m) (l.earlier m (omega arith) less))));
          }));
      none = λ right other h same. (let o = (is_named_so other (ap is_named same ∙ is)).0 ∙ ap (λ k. named k (get_or (rank other) 1 0)) same in refute right (get_or (rank other) 1 0) (subst (HasFlaw c) o h));
    }
