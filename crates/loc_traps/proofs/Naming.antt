-- New rows are named one after another.
use Rattle.std.proofs.Common.{◌≡◌, ◌≢◌, ℕ, ◌+◌, ◌<◌, ◌≤◌, true, false, ◌&&◌, List, length, set, get_or, get_or-set_other, get_or-set_same, refl, sym, ◌∙◌, ap, subst, inl, inr, arith}
use Rattle.std.specs.Prelude.{Option, Some, None}
use Rattle.std.proofs.lemmas.Bool.{and_parts, and_from, both_ways, cases_lt, false_from_ne_true}
use Rattle.loc_spec_plane.specs.{declared.Trap.Trap, Tables.Table, Traps.same_bound}
use Rattle.loc_laws_traps.specs.Maps.{Renames}
use Rattle.loc_laws_traps.proofs.Cells.{same_bound-true, same_bound-same}
use Rattle.loc_traps.specs.declared.names.Kind.{Kind}
use Rattle.loc_traps.specs.declared.names.Kind.TheVariants.{Lowest, Highest}
use Rattle.loc_traps.specs.Meaning.{row_of, named_of}
use Rattle.loc_traps.specs.Names.{starts_apart, bound_of, is_kind, IsOneOfAKind}

-- a trapezoid of the kind at a corner
pub kind_is : (kind : Kind) (t : Table) (c : ℕ) (trap : Trap) → is_kind kind t c trap ≡ (same_bound trap.left (Some c) && starts_apart t c (bound_of kind trap))
kind_is Lowest t c trap = refl
kind_is Highest t c trap = refl

some_same : (a b : ℕ) → Some a ≡ Some b → a ≡ b
some_same a b h = cc

some_none : (a : ℕ) → Some a ≡ None → ⊥
some_none a h = cc

module _ (t : Table) (kind : Kind) (n i m : ℕ) (rows : List Trap) (named : List (Option ℕ)) where
  -- before any row
  pub renames_none : Renames n n (row_of rows) (is_kind kind t) (named_of named) (named_of named)
  renames_none = record { fresh = λ c j le less. absurd (omega arith); stay = λ c off. refl }

  module _ (now : List (Option ℕ)) (so_far : Renames n i (row_of rows) (is_kind kind t) (named_of named) (named_of now)) where
    kind_left : (c : ℕ) → is_kind kind t c (row_of rows i) ≡ true → (row_of rows i).left ≡ Some c
    kind_left c h = same_bound-true (row_of rows i).left (Some c) (and_parts (same_bound (row_of rows i).left (Some c)) (starts_apart t c (bound_of kind (row_of rows i))) (sym (kind_is kind t c (row_of rows i)) ∙ h)).0

    -- the row is of the kind, and is named
    pub renames_more : (c : ℕ) → n ≤ i → i < m → c < length now → IsOneOfAKind n m (row_of rows) (is_kind kind t) → (row_of rows i).left ≡ Some c → starts_apart t c (bound_of kind (row_of rows i)) ≡ true → (now2 : List (Option ℕ)) → now2 ≡ set now c (Some i)
        → Renames n (i + 1) (row_of rows) (is_kind kind t) (named_of named) (named_of now2)
    renames_more c le less real one left apart now2 is_set = subst (λ (xs : List (Option ℕ)). Renames n (i + 1) (row_of rows) (is_kind kind t) (named_of named) (named_of xs)) (sym is_set) (record {
      fresh = λ d j from upto is_one. elim (cases_lt j i) [
        | inl early ↦ (let other : d ≢ c = (λ same. (let j_is : j ≡ i = one c j i from (omega arith) le less (subst (λ x. is_kind kind t x (row_of rows j) ≡ true) same is_one) here in omega arith)) in
            rw get_or-set_other (so_far.fresh d j from early is_one))
        | inr late ↦ (let at : i ≡ j = omega arith in
            let same : c ≡ d = some_same c d (sym left ∙ kind_left d (subst (λ x. is_kind kind t d (row_of rows x) ≡ true) (sym at) is_one)) in
            subst (λ x. get_or (set now c (Some i)) x None ≡ Some j) same (get_or-set_same now c (Some i) None real ∙ ap (λ x. Some x) at))
      ];
      stay = λ d off. (let other : d ≢ c = (λ same. both_ways (is_kind kind t d (row_of rows i)) (off i le (omega arith)) (subst (λ x. is_kind kind t x (row_of rows i) ≡ true) (sym same) here)) in
          rw get_or-set_other (so_far.stay d (λ j from upto. off j from (omega arith))));
    })
      where
        here : is_kind kind t c (row_of rows i) ≡ true
        here = kind_is kind t c (row_of rows i) ∙ and_from (same_bound (row_of rows i).left (Some c)) (starts_apart t c (bound_of kind (row_of rows i))) (same_bound-same (row_of rows i).left (Some c) left) apart

    -- the row is of the kind at no corner
    pub renames_same : ((c : ℕ) → is_kind kind t c (row_of rows i) ≡ false) → Renames n (i + 1) (row_of rows) (is_kind kind t) (named_of named) (named_of now)
    renames_same none = record {
      fresh = λ d j from upto is_one. elim (cases_lt j i) [
        | inl early ↦ so_far.fresh d j from early is_one
        | inr late ↦ (let at : j ≡ i = omega arith in absurd (both_ways (is_kind kind t d (row_of rows i)) (none d) (subst (λ x. is_kind kind t d (row_of rows x) ≡ true) at is_one)))
      ];
      stay = λ d off. so_far.stay d (λ j from upto. off j from (omega arith));
    }

    pub none_without_left : (row_of rows i).left ≡ None → (c : ℕ) → is_kind kind t c (row_of rows i) ≡ false
    none_without_left off c = false_from_ne_true (is_kind kind t c (row_of rows i)) (λ h. some_none c (sym (kind_left c h) ∙ off))

    pub none_that_begins : (c : ℕ) → (row_of rows i).left ≡ Some c → starts_apart t c (bound_of kind (row_of rows i)) ≡ false → (d : ℕ) → is_kind kind t d (row_of rows i) ≡ false
    none_that_begins c left off d = false_from_ne_true (is_kind kind t d (row_of rows i)) (λ h.
        (let same : d ≡ c = some_same d c (sym (kind_left d h) ∙ left) in
        both_ways (starts_apart t c (bound_of kind (row_of rows i))) off
        (subst (λ x. starts_apart t x (bound_of kind (row_of rows i)) ≡ true) same (and_parts (same_bound (row_of rows i).left (Some d)) (starts_apart t d (bound_of kind (row_of rows i))) (sym (kind_is kind t d (row_of rows i)) ∙ h)).1)))
