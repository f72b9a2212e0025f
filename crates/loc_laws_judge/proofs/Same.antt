-- The first flaw is the computed one: two flaws of one rank are one flaw, but for edges that conflict.
use Rattle.std.proofs.Common.{◌≡◌, ℕ, true, List, [], ◌∷◌, get_or, refl, sym, ◌∙◌, ap, subst, inl, inr}
use Rattle.std.specs.Prelude.{Option, Some, None, ◌==◌, nat_lt}
use Rattle.std.proofs.lemmas.Bool.{and_from, both_ways, cases_order, eq-eqb, lt-ltb, not-true, or_left, or_right}
use Rattle.loc_spec_plane.specs.{Covers.list_before, Tables.corner}
use Rattle.loc_laws_order.proofs.Unique.{list-unique}
use Rattle.loc_spec_index.specs.Content.{Content, table_in}
use Rattle.loc_spec_index.specs.Flaws.{DifferFirstAt, Flaw, HasFlaw, IsDeepIn, IsFirst, IsMisread, rank, lone, bare, uneven, conflicting, wrong_floor, wrong_cover, spare_cover, wrong_source, deep, wrong_list}
use Rattle.loc_laws_index.proofs.FlawKinds.{kind_of, is_named, named, is_named_so}
use Rattle.loc_laws_index.proofs.{NoFlaw.true_has_no_flaw, Reading.reads-unique}
use Rattle.loc_laws_judge.specs.FirstFlaw.{FirstIsFound, IsOneOf, first_flaw}
use Rattle.loc_laws_judge.proofs.{Differences.one_difference, First.found_is_first, First.none_is_true}

-- of two lists neither of which comes before the other, each is the other
same-from_neither : (xs ys : List ℕ) → (list_before xs ys ≡ true → ⊥) → (list_before ys xs ≡ true → ⊥) → xs ≡ ys
same-from_neither [] [] h k = refl
same-from_neither [] (y ∷ ys) h k = absurd (h refl)
same-from_neither (x ∷ xs) [] h k = absurd (k refl)
same-from_neither (x ∷ xs) (y ∷ ys) h k = elim (cases_order x y) [
  | inl same ↦ (let rest = same-from_neither xs ys (λ b. h (or_right (nat_lt x y) _ (and_from (x == y) _ (eq-eqb x y same) b))) (λ b. k (or_right (nat_lt y x) _ (and_from (y == x) _ (eq-eqb y x (sym same)) b))) in cc)
  | inr apart ↦ elim apart [ inl less ↦ absurd (h (or_left (nat_lt x y) _ (lt-ltb x y less))) | inr more ↦ absurd (k (or_left (nat_lt y x) _ (lt-ltb y x more))) ]
]

-- two first flaws have one rank
one_rank : (c : Content) (f g : Flaw) → IsFirst c f → IsFirst c g → rank f ≡ rank g
one_rank c f g is_f is_g = same-from_neither (rank f) (rank g) (λ b. both_ways _ (not-true _ (is_g.1 f is_f.0)) b) (λ b. both_ways _ (not-true _ (is_f.1 g is_g.0)) b)

-- a flaw of a kind whose flaws have one number goes by its rank
one_named : (kind n : ℕ) (g : Flaw) → is_named kind ≡ true → kind ∷ n ∷ [] ≡ rank g → g ≡ named kind n
one_named kind n g is same =
    let k : kind_of g ≡ kind = ap (λ r. get_or r 0 0) (sym same) in
    (is_named_so g (ap is_named k ∙ is)).0 ∙ (ap (λ k. named k (get_or (rank g) 1 0)) k ∙ ap (λ r. named kind (get_or r 1 0)) (sym same))

some_flaw : (f g : Flaw) → g ≡ f → ◌≡◌ {A = Option Flaw} (Some g) (Some f)
some_flaw f g same = ap (λ x. Some x) same

-- ---- uneven features and conflicts
one_uneven : (n f : ℕ) (g : Flaw) → 2 ∷ n ∷ f ∷ [] ≡ rank g → ◌≡◌ {A = Option Flaw} (Some g) (Some (uneven n f))
one_uneven n f (uneven m k) same = (let first : m ≡ n = cc in let second : k ≡ f = cc in cc)
one_uneven n f _ same = absurd (cc)

one_conflicting : (g : Flaw) → 3 ∷ [] ≡ rank g → (d : ℕ) × (e : ℕ) × (◌≡◌ {A = Option Flaw} (Some g) (Some (conflicting d e)))
one_conflicting (conflicting d e) same = (d, e, refl)
one_conflicting _ same = absurd (cc)

-- ---- versions
module _ (c : Content) where
  -- a version is not both deep and misread
  not_both : (i p : ℕ) → IsDeepIn c i → IsMisread c i p → ⊥
  not_both i p is_deep misread = both_ways _ (not-true _ (misread.shallow is_deep.0 is_deep.1)) is_deep.2

  -- and misread from one position on
  one_position : (i p q : ℕ) → IsMisread c i p → IsMisread c i q → p ≡ q
  one_position i p q m n =
      let list : n.list ≡ m.list = list-unique (table_in c) (corner (table_in c) i) n.list m.list n.is_version m.is_version in
      let read : n.read ≡ m.read = reads-unique c.nodes i n.reads m.reads in
      one_difference m.read m.list p q m.differ (subst (λ xs. DifferFirstAt xs m.list q) read (subst (λ ys. DifferFirstAt n.read ys q) list n.differ))

  one_deep : (i : ℕ) (g : Flaw) → IsDeepIn c i → HasFlaw c g → 8 ∷ i ∷ [] ≡ rank g → ◌≡◌ {A = Option Flaw} (Some g) (Some (deep i))
  one_deep i (deep j) is_deep h same = cc
  one_deep i (wrong_list j p) is_deep h same = let version : i ≡ j = cc in absurd (not_both j p (subst (IsDeepIn c) version is_deep) h.1)
  one_deep i _ is_deep h same = absurd (cc)

  one_wrong_list : (i p : ℕ) (g : Flaw) → IsMisread c i p → HasFlaw c g → 8 ∷ i ∷ [] ≡ rank g → ◌≡◌ {A = Option Flaw} (Some g) (Some (wrong_list i p))
  one_wrong_list i p (deep j) misread h same = let version : i ≡ j = cc in absurd (not_both j p h.1 (subst (λ k. IsMisread c k p) version misread))
  one_wrong_list i p (wrong_list j q) misread h same = let version : i ≡ j = cc in let position : p ≡ q = one_position j p q (subst (λ k. IsMisread c k p) version misread) h.1 in cc
  one_wrong_list i p _ misread h same = absurd (cc)

  -- ---- two flaws of one rank
  one_flaw : (f g : Flaw) → HasFlaw c f → HasFlaw c g → rank f ≡ rank g → IsOneOf f (Some g)
  one_flaw (lone n) g there h same = some_flaw (lone n) g (one_named 0 n g refl same)
  one_flaw (bare e) g there h same = some_flaw (bare e) g (one_named 1 e g refl same)
  one_flaw (uneven n f) g there h same = one_uneven n f g same
  one_flaw (conflicting a b) g there h same = one_conflicting g same
  one_flaw (wrong_floor n) g there h same = some_flaw (wrong_floor n) g (one_named 4 n g refl same)
  one_flaw (wrong_cover e) g there h same = some_flaw (wrong_cover e) g (one_named 5 e g refl same)
  one_flaw (spare_cover n) g there h same = some_flaw (spare_cover n) g (one_named 6 n g refl same)
  one_flaw (wrong_source e) g there h same = some_flaw (wrong_source e) g (one_named 7 e g refl same)
  one_flaw (deep i) g there h same = one_deep i g there.1 h same
  one_flaw (wrong_list i p) g there h same = one_wrong_list i p g there.1 h same

-- the first flaw is the computed one
pub first_is_found : FirstIsFound
first_is_found c flaw r is_first = by (first_flaw c) refl
  where
    by : (found : Option Flaw) → first_flaw c ≡ found → IsOneOf flaw found
    by None h = absurd (true_has_no_flaw c flaw (none_is_true c r h) is_first.0)
    by (Some g) h = let is_g = found_is_first c g r h in one_flaw c flaw g is_first.0 is_g.0 (one_rank c flaw g is_first is_g)
