-- What is told of uneven features and of edges that conflict.
use Rattle.std.proofs.Common.{◌≡◌, ℕ, ◌<◌, ◌≤◌, true, false, ◌&&◌, length, refl, ◌∙◌, subst, inl, inr, arith}
use Rattle.std.specs.Prelude.{Bool, Option, Some, None, nat_lt}
use Rattle.std.proofs.lemmas.Bool.{and_from, and_parts, and_right, both_ways, cases_lt, cases_order, false_from_ne_true, lt-ltb, ltb-true, not_from_false}
use Rattle.std.proofs.lemmas.Option.{cond_some}
use Rattle.loc_spec_plane.specs.{Lists.numbers, Points.conflict, Covers.feature_count}
use Rattle.loc_spec_plane.specs.Tables.{Table, AllEven, NoConflict, edge, edge_numbers, ends_at, has_odd}
use Rattle.loc_laws_rays.proofs.{Members.feature_below, Members.has-from_odd, Parity.never, Parity.odd_many-same}
use Rattle.loc_laws_order.proofs.Tests.{conflict_none, conflict_swap}
use Rattle.loc_spec_index.specs.{Content.Content, Content.table_in, Flaws.Flaw, Flaws.uneven, Flaws.conflicting}
use Rattle.loc_spec_index.proofs.Refutes.{no_uneven, no_conflicting}
use Rattle.loc_laws_index.proofs.FlawKinds.{as_many, least_uneven, least_conflict}
use Rattle.loc_laws_judge.specs.FirstFlaw.{conflicting_pair, first_some, flaw_if, is_odd_at, uneven_feature}
use Rattle.loc_laws_judge.proofs.FirstSome.{flaw-none, none_below, some_below}
use Rattle.loc_laws_judge.proofs.OfKind.{IsLeastOf, IsTold, NoneOf}

-- ---- uneven features
-- no feature past the count is odd
even_past : (t : Table) (n f : ℕ) → feature_count t ≤ f → is_odd_at t n f ≡ false
even_past t n f le = odd_many-same (λ e. ends_at t n e && has_odd t f e) (λ e. false) (edge_numbers t)
    (λ e. and_right (ends_at t n e) (has_odd t f e) (false_from_ne_true (has_odd t f e) (λ h. (let less : f < feature_count t = feature_below t f e (has-from_odd t f e h) in omega (arith, less, le))))) ∙ never (edge_numbers t)

module _ (c : Content) where
  -- what is found at a corner
  abbrev odd_feature : ℕ → Option Flaw
  odd_feature n = first_some (λ f. flaw_if (is_odd_at (table_in c) n f) (uneven n f)) (numbers (feature_count (table_in c)))

  even_at : (n : ℕ) → odd_feature n ≡ None → (f : ℕ) → is_odd_at (table_in c) n f ≡ false
  even_at n h f = elim (cases_lt f (feature_count (table_in c))) [
    | inl less ↦ flaw-none (is_odd_at (table_in c) n f) (uneven n f) (none_below (λ f. flaw_if (is_odd_at (table_in c) n f) (uneven n f)) (feature_count (table_in c)) h f less)
    | inr past ↦ even_past (table_in c) n f past
  ]

  odd_least : (n : ℕ) → n < length c.corners → ((m : ℕ) → m < n → odd_feature m ≡ None) → (flaw : Flaw) → odd_feature n ≡ Some flaw → IsLeastOf c 2 flaw
  odd_least n fits earlier flaw h =
      let l = some_below (λ f. flaw_if (is_odd_at (table_in c) n f) (uneven n f)) (feature_count (table_in c)) flaw h in
      let found = cond_some (is_odd_at (table_in c) n l.number) (uneven n l.number) flaw l.found in
      subst (IsLeastOf c 2) found.1 (record {
        is_of = refl;
        there = (fits, found.0);
        least = least_uneven c n l.number (λ m g before there. elim before [
          | inl less ↦ both_ways (is_odd_at (table_in c) m g) (even_at m (earlier m less) g) there.1
          | inr same ↦ both_ways (is_odd_at (table_in c) n g) (flaw-none (is_odd_at (table_in c) n g) (uneven n g) (l.earlier g (omega arith) same.1)) (subst (λ k. is_odd_at (table_in c) k g ≡ true) same.0 there.1)
        ]);
      })

  none_uneven : AllEven (table_in c) → NoneOf c 2
  none_uneven even (uneven n f) h same = no_uneven c even n f h
  none_uneven even _ h same = omega (arith, same)

  pub uneven_told : IsTold c 2 (AllEven (table_in c)) (uneven_feature c)
  unfolding table_in
  uneven_told = record {
    right = λ h n less f. not_from_false _ (even_at n (none_below odd_feature (length c.corners) h n less) f);
    least = λ flaw h. (let l = some_below odd_feature (length c.corners) flaw h in odd_least l.number l.below (λ m less. l.earlier m (omega arith) less) flaw l.found);
    none = none_uneven;
  }

  -- ---- edges that conflict
  -- the lesser number first, and a conflict
  abbrev conflicts : ℕ → ℕ → Bool
  conflicts a b = nat_lt a b && conflict (edge (table_in c) a) (edge (table_in c) b)

  -- what is found at an edge
  abbrev conflict_with : ℕ → Option Flaw
  conflict_with a = first_some (λ b. flaw_if (conflicts a b) (conflicting a b)) (numbers (length c.edges))

  none_found : conflicting_pair c ≡ None → (a b : ℕ) → a < length c.edges → b < length c.edges → a < b → conflict (edge (table_in c) a) (edge (table_in c) b) ≡ false
  none_found h a b la lb less = false_from_ne_true _ (λ there. both_ways (conflicts a b)
      (flaw-none (conflicts a b) (conflicting a b) (none_below (λ b. flaw_if (conflicts a b) (conflicting a b)) (length c.edges) (none_below conflict_with (length c.edges) h a la) b lb))
      (and_from (nat_lt a b) _ (lt-ltb a b less) there))

  quiet : conflicting_pair c ≡ None → (a b : ℕ) → a < length c.edges → b < length c.edges → conflict (edge (table_in c) a) (edge (table_in c) b) ≡ false
  quiet h a b la lb = elim (cases_order a b) [
    | inl same ↦ subst (λ k. conflict (edge (table_in c) a) (edge (table_in c) k) ≡ false) same (conflict_none (edge (table_in c) a))
    | inr apart ↦ elim apart [
      | inl less ↦ none_found h a b la lb less
      | inr more ↦ conflict_swap (edge (table_in c) a) (edge (table_in c) b) ∙ none_found h b a lb la more
    ]
  ]

  conflict_least : (a : ℕ) (flaw : Flaw) → conflict_with a ≡ Some flaw → IsLeastOf c 3 flaw
  conflict_least a flaw h =
      let l = some_below (λ b. flaw_if (conflicts a b) (conflicting a b)) (length c.edges) flaw h in
      let found = cond_some (conflicts a l.number) (conflicting a l.number) flaw l.found in
      let parts = and_parts (nat_lt a l.number) (conflict (edge (table_in c) a) (edge (table_in c) l.number)) found.0 in
      subst (IsLeastOf c 3) found.1 (record { is_of = refl; there = (ltb-true a l.number parts.0, l.below, parts.1); least = least_conflict c })

  none_conflicting : NoConflict (table_in c) → NoneOf c 3
  none_conflicting apart (conflicting a b) h same = no_conflicting c apart (as_many c) a b h
  none_conflicting apart _ h same = omega (arith, same)

  pub conflict_told : IsTold c 3 (NoConflict (table_in c)) (conflicting_pair c)
  conflict_told = record {
    right = λ h a b la lb. not_from_false _ (quiet h a b (subst (λ n. a < n) (as_many c) la) (subst (λ n. b < n) (as_many c) lb));
    least = λ flaw h. (let l = some_below conflict_with (length c.edges) flaw h in conflict_least l.number flaw l.found);
    none = none_conflicting;
  }
