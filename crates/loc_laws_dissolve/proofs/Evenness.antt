-- At every corner an even number of kept edges end. Between two corners the odd marks of each feature on all edges are even in number, so above them all no feature covers, nor
-- does the group; and the kept edges, which count how often its covering changes on the way up, are even in number too. Passing a corner changes that number by those that end there.
use Rattle.std.proofs.Common.{◌≡◌, ℕ, zero, suc, ◌+◌, ◌<◌, ◌≤◌, Bool, true, false, not, ◌&&◌, length, refl, sym, ◌∙◌, ap, ap₂, ◌⊎◌, inl, inr, arith, add-one}
use Rattle.std.specs.Prelude.{nat_lt, ◌==◌}
use Rattle.std.proofs.lemmas.Bool.{and_from, and_left, and_right, or_left, or_right, or_from, cases_eq, eq-eqb, ne_eqb, le-ltb, lt-ltb, ltb-true, not-true, not_from_true, not_from_false}
use Rattle.loc_spec_plane.specs.{Lists.numbers, Lists.exactly_one, Lists.odd_many, Places.alive_at}
use Rattle.loc_spec_plane.specs.Tables.{Table, IsTable, AllEnds, AllEven, NoConflict, corner, edge_numbers, lo_of, hi_of, ends_at, has_odd}
use Rattle.loc_spec_plane.specs.Covers.{feature_count}
use Rattle.loc_spec_groups.specs.Groups.{is_kept}
use Rattle.loc_laws_order.proofs.{AliveAt.alive_past, AliveAt.alive_at_corner, TableOrder.numbers_within}
use Rattle.loc_laws_rays.proofs.Parity.{exactly_one_same, same-from_exactly_one, odd_many-agree, odd_many-same, odd_many-exactly_one, never, both_and}
use Rattle.loc_laws_rays.proofs.{Listed.sorted_list_is, Along.next_same}
use Rattle.loc_laws_dissolve.proofs.Upward.{any-same, any-never, kept_at, marked_at}

module _ (t : Table) (ok : IsTable t) where
  -- passing corner n, the edges with this end come or go
  passing : (n d : ℕ) → d < length t.ends → exactly_one (alive_past t n d) (alive_past t (n + 1) d) ≡ ends_at t n d
  passing n d lt = at (cases_eq (lo_of t d) n) (cases_eq (hi_of t d) n)
    where
      up : (lo_of t d < hi_of t d) × (hi_of t d < length t.corners)
      up = ok.goes_up d lt

      with_values : (a b c : Bool) → alive_past t n d ≡ a → alive_past t (n + 1) d ≡ b → ends_at t n d ≡ c → exactly_one a b ≡ c → exactly_one (alive_past t n d) (alive_past t (n + 1) d) ≡ ends_at t n d
      with_values a b c ea eb ec h = ap₂ exactly_one ea eb ∙ (h ∙ sym ec)

      at : (lo_of t d ≡ n) ⊎ (lo_of t d ≡ n → ⊥) → (hi_of t d ≡ n) ⊎ (hi_of t d ≡ n → ⊥) → exactly_one (alive_past t n d) (alive_past t (n + 1) d) ≡ ends_at t n d
      at (inl begin) other = with_values false true true
          (and_left (nat_lt (lo_of t d) n) (not (nat_lt (hi_of t d) n)) (le-ltb (lo_of t d) n (omega arith)))
          (and_from (nat_lt (lo_of t d) (n + 1)) (not (nat_lt (hi_of t d) (n + 1))) (lt-ltb (lo_of t d) (n + 1) (omega arith)) (not_from_false (nat_lt (hi_of t d) (n + 1)) (le-ltb (hi_of t d) (n + 1) (omega (arith, up.0)))))
          (or_left (lo_of t d == n) (hi_of t d == n) (eq-eqb (lo_of t d) n begin)) refl
      at (inr not_begin) (inl finish) = with_values true false true
          (and_from (nat_lt (lo_of t d) n) (not (nat_lt (hi_of t d) n)) (lt-ltb (lo_of t d) n (omega (arith, up.0))) (not_from_false (nat_lt (hi_of t d) n) (le-ltb (hi_of t d) n (omega arith))))
          (and_right (nat_lt (lo_of t d) (n + 1)) (not (nat_lt (hi_of t d) (n + 1))) (not_from_true (nat_lt (hi_of t d) (n + 1)) (lt-ltb (hi_of t d) (n + 1) (omega arith))))
          (or_right (lo_of t d == n) (hi_of t d == n) (eq-eqb (hi_of t d) n finish)) refl
      at (inr not_begin) (inr not_finish) =
          ap (exactly_one (alive_past t n d)) (ap₂ (λ a b. a && not b) (next_same (lo_of t d) n not_begin) (next_same (hi_of t d) n not_finish))
          ∙ (exactly_one_same (alive_past t n d) ∙ sym (or_from (lo_of t d == n) (hi_of t d == n) (ne_eqb (lo_of t d) n not_begin) (ne_eqb (hi_of t d) n not_finish)))

  -- the parity of a test on the edges between two corners
  abbrev past : (ℕ → Bool) → ℕ → Bool
  past test n = odd_many (λ d. alive_past t n d && test d) (edge_numbers t)

  past_none : (test : ℕ → Bool) → past test 0 ≡ false
  past_none test = odd_many-same (λ d. alive_past t 0 d && test d) (λ d. false) (edge_numbers t) (λ d. and_left (alive_past t 0 d) (test d) (and_left (nat_lt (lo_of t d) 0) (not (nat_lt (hi_of t d) 0)) (le-ltb (lo_of t d) 0 (omega arith)))) ∙ never (edge_numbers t)

  past_more : (test : ℕ → Bool) (n : ℕ) → exactly_one (past test n) (past test (n + 1)) ≡ odd_many (λ d. ends_at t n d && test d) (edge_numbers t)
  past_more test n =
      sym (odd_many-exactly_one (λ d. alive_past t n d && test d) (λ d. alive_past t (n + 1) d && test d) (edge_numbers t))
      ∙ odd_many-agree (λ d. nat_lt d (length t.ends)) (λ d. exactly_one (alive_past t n d && test d) (alive_past t (n + 1) d && test d)) (λ d. ends_at t n d && test d) (edge_numbers t) (numbers_within (length t.ends))
      (λ d is_d. sym (both_and (alive_past t n d) (alive_past t (n + 1) d) (test d)) ∙ ap (λ b. b && test d) (passing n d (ltb-true d (length t.ends) is_d)))

  -- between two corners the odd marks of a feature are even in number
  marks_past : AllEven t → (f n : ℕ) → n ≤ length t.corners → past (has_odd t f) n ≡ false
  marks_past even f zero le = past_none (has_odd t f)
  marks_past even f (suc n) le =
      let before : past (has_odd t f) n ≡ past (has_odd t f) (n + 1) = same-from_exactly_one (past (has_odd t f) n) (past (has_odd t f) (n + 1)) (past_more (has_odd t f) n ∙ not-true (odd_many (λ d. ends_at t n d && has_odd t f d) (edge_numbers t)) (even n (omega arith) f)) in
      ap (past (has_odd t f)) (sym (add-one n)) ∙ (sym before ∙ marks_past even f n (omega arith))

  -- at a corner these are the edges alive there
  at_corner_past : (test : ℕ → Bool) (c : ℕ) → c < length t.corners → past test (c + 1) ≡ odd_many (λ d. alive_at t (corner t c) d && test d) (edge_numbers t)
  at_corner_past test c lt = odd_many-agree (λ d. nat_lt d (length t.ends)) (λ d. alive_past t (c + 1) d && test d) (λ d. alive_at t (corner t c) d && test d) (edge_numbers t) (numbers_within (length t.ends))
      (λ d is_d. ap (λ b. b && test d) (sym (alive_at_corner t ok c lt d ∙ ap (λ b. b && alive_past t (c + 1) d) is_d)))

  module _ (ended : AllEnds t) (even : AllEven t) (apart : NoConflict t) (member : ℕ → Bool) where
    -- between two corners the kept edges are even in number
    kept_past : (n : ℕ) → n ≤ length t.corners → past (is_kept t member) n ≡ false
    kept_past zero le = past_none (is_kept t member)
    kept_past (suc c) le =
        let is_list = sorted_list_is t ok apart (corner t c) in
        let lt : c < length t.corners = omega arith in
        ap (past (is_kept t member)) (sym (add-one c)) ∙ (at_corner_past (is_kept t member) c lt ∙ (kept_at t ok ended even apart member (corner t c) _ is_list
        ∙ (any-same (λ f. member f && odd_many (has_odd t f) _) (λ f. false) (numbers (feature_count t)) (λ f. and_right (member f) _ (sym (marked_at t ok ended even apart member (corner t c) _ is_list f) ∙ (sym (at_corner_past (has_odd t f) c lt) ∙ (ap (past (has_odd t f)) (add-one c) ∙ marks_past even f (suc c) le))))
        ∙ any-never (numbers (feature_count t)))))

    -- at every corner an even number of kept edges end
    pub kept_even : (c : ℕ) → c < length t.corners → odd_many (λ e. ends_at t c e && is_kept t member e) (edge_numbers t) ≡ false
    kept_even c lt =
        sym (past_more (is_kept t member) c)
        ∙ (ap (λ b. exactly_one b (past (is_kept t member) (c + 1))) (kept_past c (omega arith)) ∙ (ap (past (is_kept t member)) (add-one c) ∙ kept_past (suc c) (omega arith)))
