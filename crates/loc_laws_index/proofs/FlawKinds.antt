-- The kinds of flaws by their order: a flaw goes by its kind first, and the least of a kind is the first of all where no flaw is of an earlier one.
use Rattle.std.proofs.Common.{◌≡◌, ℕ, ◌<◌, Bool, true, ◌||◌, ◌&&◌, List, [], ◌∷◌, get_or, length, drop, refl, sym, ◌∙◌, ap, subst, inl, inr, arith}
use Rattle.std.specs.Prelude.{◌⊎◌, ◌==◌, if◌then◌else◌, nat_lt}
use Rattle.std.proofs.lemmas.Bool.{false_from_ne_true, not_from_false, true≢false}
use Rattle.std.proofs.lemmas.List.{length-map}
use Rattle.loc_spec_plane.specs.Covers.{list_before}
use Rattle.loc_spec_index.specs.{Content.Content, Content.EdgeRow, Content.table_in, TrueIndex.IsTrueVersion}
use Rattle.loc_spec_index.specs.Flaws.{Flaw, HasFlaw, IsFirst, rank, lone, bare, uneven, conflicting, wrong_floor, wrong_cover, spare_cover, wrong_source, deep, wrong_list}
use Rattle.loc_spec_index.proofs.Refutes.{before_in_kind}
use Rattle.loc_laws_index.proofs.{NoFlaw.no_deep, NoFlaw.no_wrong_list, RightRows.by-first}

-- the place of a kind in the order of judging
abbrev pub kind_of : Flaw → ℕ
kind_of flaw = get_or (rank flaw) 0 0

ranked : (flaw : Flaw) → rank flaw ≡ kind_of flaw ∷ drop 1 (rank flaw)
ranked (lone n) = refl
ranked (bare e) = refl
ranked (uneven n f) = refl
ranked (conflicting a b) = refl
ranked (wrong_floor n) = refl
ranked (wrong_cover e) = refl
ranked (spare_cover n) = refl
ranked (wrong_source e) = refl
ranked (deep i) = refl
ranked (wrong_list i p) = refl

-- a flaw goes by its kind first
kind_first : (a b : Flaw) → list_before (rank a) (rank b) ≡ true → (kind_of a < kind_of b) ⊎ ((kind_of a ≡ kind_of b) × (list_before (drop 1 (rank a)) (drop 1 (rank b)) ≡ true))
kind_first a b h = by-first (kind_of a) (kind_of b) _ (subst (λ ns. list_before ns (kind_of b ∷ drop 1 (rank b)) ≡ true) (ranked a) (subst (λ ns. list_before (rank a) ns ≡ true) (ranked b) h))

-- a flaw with a number that comes before another of its kind has a lesser number
lesser : (kind m n : ℕ) → list_before (kind ∷ m ∷ []) (kind ∷ n ∷ []) ≡ true → m < n
lesser kind m n h = elim (before_in_kind kind m n [] [] h) [ inl less ↦ less | inr same ↦ absurd (true≢false (sym same.1)) ]

-- the kinds whose flaws have one number, but for the last, and those flaws
abbrev pub is_named : ℕ → Bool
is_named kind = (nat_lt kind 2) || (nat_lt 3 kind && nat_lt kind 8)

abbrev pub named : ℕ → ℕ → Flaw
named kind n = if kind == 0 then lone n else if kind == 1 then bare n else if kind == 4 then wrong_floor n else if kind == 5 then wrong_cover n else if kind == 6 then spare_cover n else wrong_source n

-- such a flaw goes by its kind and its number
pub is_named_so : (flaw : Flaw) → is_named (kind_of flaw) ≡ true → (flaw ≡ named (kind_of flaw) (get_or (rank flaw) 1 0)) × (rank flaw ≡ kind_of flaw ∷ get_or (rank flaw) 1 0 ∷ [])
is_named_so (lone n) is = (refl, refl)
is_named_so (bare e) is = (refl, refl)
is_named_so (uneven n f) is = absurd (true≢false (sym is))
is_named_so (conflicting a b) is = absurd (true≢false (sym is))
is_named_so (wrong_floor n) is = (refl, refl)
is_named_so (wrong_cover e) is = (refl, refl)
is_named_so (spare_cover n) is = (refl, refl)
is_named_so (wrong_source e) is = (refl, refl)
is_named_so (deep i) is = absurd (true≢false (sym is))
is_named_so (wrong_list i p) is = absurd (true≢false (sym is))

module _ (c : Content) where
  -- no flaw is of an earlier kind
  abbrev pub NoneBelow : ℕ → Type 0
  NoneBelow kind = (other : Flaw) → HasFlaw c other → kind_of other < kind → ⊥

  -- no flaw of a kind comes before one of such a rank
  abbrev pub NoneBefore : ℕ → List ℕ → Type 0
  NoneBefore kind place = (other : Flaw) → HasFlaw c other → kind_of other ≡ kind → list_before (rank other) place ≡ true → ⊥

  -- the least of a kind is the first where no flaw is of an earlier one
  pub first_from : (kind : ℕ) → NoneBelow kind → (flaw : Flaw) → kind_of flaw ≡ kind → HasFlaw c flaw → NoneBefore kind (rank flaw) → IsFirst c flaw
  first_from kind below flaw is_of there least = (
    there,
    λ other h. not_from_false _ (false_from_ne_true _ (λ before. elim (kind_first other flaw before) [
      | inl less ↦ below other h (subst (λ n. kind_of other < n) is_of less)
      | inr same ↦ least other h (same.0 ∙ is_of) before
    ])),
  )

  -- none comes before the least number of its kind
  pub least_named : (kind n : ℕ) → is_named kind ≡ true → ((m : ℕ) → m < n → HasFlaw c (named kind m) → ⊥) → NoneBefore kind (kind ∷ n ∷ [])
  least_named kind n is none other h same before =
      let o = is_named_so other (ap is_named same ∙ is) in
      let number = get_or (rank other) 1 0 in
      let place : rank other ≡ kind ∷ number ∷ [] = o.1 ∙ ap (λ k. k ∷ number ∷ []) same in
      none number (lesser kind number n (subst (λ r. list_before r (kind ∷ n ∷ []) ≡ true) place before)) (subst (HasFlaw c) (o.0 ∙ ap (λ k. named k number) same) h)

  pub least_uneven : (n f : ℕ) → ((m g : ℕ) → (m < n) ⊎ ((m ≡ n) × (g < f)) → HasFlaw c (uneven m g) → ⊥) → NoneBefore 2 (2 ∷ n ∷ f ∷ [])
  least_uneven n f none (uneven m g) h same before = elim (before_in_kind 2 m n (g ∷ []) (f ∷ []) before) [
    | inl less ↦ none m g (inl less) h
    | inr equal ↦ none m g (inr (equal.0, elim (by-first g f _ equal.1) [ inl less ↦ less | inr later ↦ absurd (true≢false (sym later.1)) ])) h
  ]
  least_uneven n f none _ h same before = omega (arith, same)

  pub least_conflict : NoneBefore 3 (3 ∷ [])
  least_conflict (conflicting d e) h same before = true≢false (sym before)
  least_conflict _ h same before = omega (arith, same)

  -- a version is deep, or its list is wrong, where those before it are true
  pub least_version : (n : ℕ) → ((m : ℕ) → m < n → IsTrueVersion c m) → NoneBefore 8 (8 ∷ n ∷ [])
  least_version n right (deep m) h same before = no_deep c m (right m (lesser 8 m n before)) h
  least_version n right (wrong_list m p) h same before = no_wrong_list c m p (right m (lesser 8 m n before)) h
  least_version n right _ h same before = omega (arith, same)

  -- as many edges as in the table
  pub as_many : length (table_in c).ends ≡ length c.edges
  unfolding table_in
  as_many = length-map c.edges (λ (e : EdgeRow). e.ends)

  -- and as many corners
  pub as_many_corners : length (table_in c).corners ≡ length c.corners
  unfolding table_in
  as_many_corners = refl
