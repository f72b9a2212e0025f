-- The least pair that passes at an edge, edge by edge, and what it is the first of.
use Rattle.std.proofs.Common.{◌≡◌, ℕ, ◌+◌, ◌<◌, ◌≤◌, Bool, true, false, ◌&&◌, ◌||◌, refl, sym, ◌∙◌, ap₂, subst, inl, inr, arith}
use Rattle.std.specs.Prelude.{nat_lt, ◌==◌, find, Option, Some, None, option_map}
use Rattle.std.specs.List.{list_any}
use Rattle.std.proofs.lemmas.Bool.{and_from, both_ways, cases_Bool, cases_order, cond-false, cond-true, eq-eqb, eqb-true, and_parts, false_from_ne_true, le-ltb, lt-ltb, ltb-true, ne_eqb, or_cases, or_left, or_right}
use Rattle.loc_spec_plane.specs.{Lists.numbers, Tables.pair_before}
use Rattle.loc_spec_valid.specs.Breaches.{first_pair}
use Rattle.loc_laws_valid.proofs.Least.{first_at, first_none, first_pair_at, no_pair}
use Rattle.loc_valid.specs.Hits.{IsLeast, IsLeastOf, lesser_of}
use Rattle.loc_valid.proofs.Covered.{any_more}

-- of two that do not pass neither passes
neither : (a b : Bool) → a ≡ false → b ≡ false → (a || b) ≡ false
neither a b off_a off_b = ap₂ (λ c d. c || d) off_a off_b

-- ---- the order of pairs
lower_first : (a b c d : ℕ) → a < c → pair_before (a, b) (c, d) ≡ true
lower_first a b c d lt = or_left (nat_lt a c) ((a == c) && nat_lt b d) (lt-ltb a c lt)

lower_second : (a b d : ℕ) → b < d → pair_before (a, b) (a, d) ≡ true
lower_second a b d lt = or_right (nat_lt a a) ((a == a) && nat_lt b d) (and_from _ _ (eq-eqb a a refl) (lt-ltb b d lt))

-- with the same first number, by the second
pub not_lower : (a b d : ℕ) → d ≤ b → pair_before (a, b) (a, d) ≡ false
not_lower a b d le = ap₂ (λ p q. p || ((a == a) && q)) (le-ltb a a (omega arith)) (le-ltb b d le) ∙ off (a == a)
  where
    off : (c : Bool) → (false || (c && false)) ≡ false
    off true = refl
    off false = refl

-- a pair that is not before one that is not after another is not before that other
record Places (a b c d : ℕ) : Type 0 where
  pub first : c ≤ a
  pub second : a ≡ c → d ≤ b

places : (a b c d : ℕ) → pair_before (a, b) (c, d) ≡ false → Places a b c d
places a b c d off = elim (cases_order a c) [
  | inl same ↦ (let e : pair_before (a, b) (c, d) ≡ nat_lt b d = ap₂ (λ p q. p || (q && nat_lt b d)) (le-ltb a c (omega arith)) (eq-eqb a c same) in
      let le : d ≤ b = elim (cases_Bool (nat_lt b d)) [ inl h ↦ absurd (both_ways _ off (e ∙ h)) | inr h ↦ not_less b d h ] in
      record { first = omega arith; second = λ _. le })
  | inr differ ↦ elim differ [
    | inl lt ↦ absurd (both_ways _ off (lower_first a b c d lt))
    | inr gt ↦ record { first = omega arith; second = λ same. absurd (omega arith) }
  ]
]
  where
    not_less : (b d : ℕ) → nat_lt b d ≡ false → d ≤ b
    not_less b d h = elim (cases_order b d) [
      | inl same ↦ omega arith
      | inr differ ↦ elim differ [ inl lt ↦ absurd (both_ways (nat_lt b d) h (lt-ltb b d lt)) | inr gt ↦ omega arith ]
    ]

from_places : (a b c d : ℕ) → Places a b c d → pair_before (a, b) (c, d) ≡ false
from_places a b c d is = elim (cases_order a c) [
  | inl same ↦ ap₂ (λ p q. p || (q && nat_lt b d)) (le-ltb a c (omega (arith, is.first))) (eq-eqb a c same) ∙ le-ltb b d (is.second same)
  | inr differ ↦ ap₂ (λ p q. p || (q && nat_lt b d)) (le-ltb a c is.first) (ne_eqb a c (λ same. elim differ [ inl lt ↦ omega (arith, is.first) | inr gt ↦ omega arith ]))
]

chain : (p q r : ℕ × ℕ) → pair_before p q ≡ false → pair_before q r ≡ false → pair_before p r ≡ false
chain p q r pq qr =
    let a = places p.0 p.1 q.0 q.1 pq in
    let b = places q.0 q.1 r.0 r.1 qr in
    from_places p.0 p.1 r.0 r.1 (record {
      first = omega (arith, a.first, b.first);
      second = λ same. (let at_q : p.0 ≡ q.0 = omega (arith, a.first, b.first) in let at_r : q.0 ≡ r.0 = omega (arith, a.first, b.first) in omega (arith, a.second at_q, b.second at_r));
    })

other_way : (p q : ℕ × ℕ) → pair_before p q ≡ true → pair_before q p ≡ false
other_way p q h = elim (or_cases (nat_lt p.0 q.0) ((p.0 == q.0) && nat_lt p.1 q.1) h) [
  | inl first ↦ (let lt = ltb-true p.0 q.0 first in from_places q.0 q.1 p.0 p.1 (record { first = omega (arith, lt); second = λ same. absurd (omega (arith, lt)) }))
  | inr second ↦ (let parts = and_parts (p.0 == q.0) (nat_lt p.1 q.1) second in
      let same = eqb-true p.0 q.0 parts.0 in let lt = ltb-true p.1 q.1 parts.1 in
      from_places q.0 q.1 p.0 p.1 (record { first = omega (arith, same); second = λ _. omega (arith, lt) }))
]

-- ---- the least of two tests
pub joined : (f g : ℕ → ℕ → Bool) (a b : Option (ℕ × ℕ)) → IsLeast f a → IsLeast g b → IsLeast (λ j k. f j k || g j k) (lesser_of a b)
joined f g None None fs gs = λ j k. neither (f j k) (g j k) (fs j k) (gs j k)
joined f g None (Some q) fs gs = (or_right (f q.0 q.1) (g q.0 q.1) gs.0, λ j k h. elim (or_cases (f j k) (g j k) h) [ inl here ↦ absurd (both_ways (f j k) (fs j k) here) | inr here ↦ gs.1 j k here ])
joined f g (Some p) None fs gs = (or_left (f p.0 p.1) (g p.0 p.1) fs.0, λ j k h. elim (or_cases (f j k) (g j k) h) [ inl here ↦ fs.1 j k here | inr here ↦ absurd (both_ways (g j k) (gs j k) here) ])
joined f g (Some p) (Some q) fs gs = elim (cases_Bool (pair_before q p)) [
  | inl less ↦ subst (IsLeast (λ j k. f j k || g j k)) (sym (cond-true (pair_before q p) (Some q) (Some p) less))
      (or_right (f q.0 q.1) (g q.0 q.1) gs.0, λ j k h. elim (or_cases (f j k) (g j k) h) [ inl here ↦ chain (j, k) p q (fs.1 j k here) (other_way q p less) | inr here ↦ gs.1 j k here ])
  | inr more ↦ subst (IsLeast (λ j k. f j k || g j k)) (sym (cond-false (pair_before q p) (Some q) (Some p) more))
      (or_left (f p.0 p.1) (g p.0 p.1) fs.0, λ j k h. elim (or_cases (f j k) (g j k) h) [ inl here ↦ fs.1 j k here | inr here ↦ chain (j, k) q p (gs.1 j k here) more ])
]

-- tests that are one have one least
pub least_of_same : (f g : ℕ → ℕ → Bool) → ((j k : ℕ) → f j k ≡ g j k) → (a : Option (ℕ × ℕ)) → IsLeast f a → IsLeast g a
least_of_same f g same None fs = λ j k. sym (same j k) ∙ fs j k
least_of_same f g same (Some p) fs = (sym (same p.0 p.1) ∙ fs.0, λ j k h. fs.1 j k (same j k ∙ h))

-- one edge more
pub edge_more : (hits : ℕ → ℕ → ℕ → Bool) (n : ℕ) (a b : Option (ℕ × ℕ)) → IsLeastOf hits n a → IsLeast (hits n) b → IsLeastOf hits (n + 1) (lesser_of a b)
edge_more hits n a b so_far here = least_of_same (λ j k. list_any (λ e. hits e j k) (numbers n) || hits n j k) (λ j k. list_any (λ e. hits e j k) (numbers (n + 1))) (λ j k. sym (any_more (λ e. hits e j k) n)) (lesser_of a b)
    (joined (λ j k. list_any (λ e. hits e j k) (numbers n)) (hits n) a b so_far here)

-- ---- the first
-- the least pair is the first pair that passes
pub first_of_pairs : (hit test : ℕ → ℕ → Bool) (m n : ℕ) → ((j k : ℕ) → j < m → k < n → test j k ≡ hit j k) → ((j k : ℕ) → hit j k ≡ true → (j < m) × (k < n)) → (a : Option (ℕ × ℕ)) → IsLeast hit a → first_pair test (numbers m) (numbers n) ≡ a
first_of_pairs hit test m n same fits None none = no_pair test n m (λ j k lj lk. same j k lj lk ∙ none j k)
first_of_pairs hit test m n same fits (Some p) least =
    let within = fits p.0 p.1 least.0 in
    first_pair_at test n m p.0 p.1 within.0 within.1 (same p.0 p.1 within.0 within.1 ∙ least.0)
    (λ j k less lk. false_from_ne_true (test j k) (λ h. both_ways (pair_before (j, k) p) (least.1 j k (sym (same j k (omega (arith, less, within.0)) lk) ∙ h)) (lower_first j k p.0 p.1 less)))
    (λ k less. false_from_ne_true (test p.0 k) (λ h. both_ways (pair_before (p.0, k) p) (least.1 p.0 k (sym (same p.0 k within.0 (omega (arith, less, within.1))) ∙ h)) (lower_second p.0 k p.1 less)))

-- the first number of the least pair is the first that passes
pub first_of_least : (hit : ℕ → ℕ → Bool) (p : ℕ → Bool) (m : ℕ) → ((j k : ℕ) → hit j k ≡ true → (j < m) × (p j ≡ true)) → ((j : ℕ) → j < m → p j ≡ true → (k : ℕ) × (hit j k ≡ true)) → (a : Option (ℕ × ℕ)) → IsLeast hit a → find p (numbers m) ≡ option_map (λ (q : ℕ × ℕ). q.0) a
first_of_least hit p m passes some None none = first_none p m (λ j lt. false_from_ne_true (p j) (λ h. let found = some j lt h in both_ways (hit j found.0) (none j found.0) found.1))
first_of_least hit p m passes some (Some q) least =
    let here = passes q.0 q.1 least.0 in
    first_at p m q.0 here.0 here.1 (λ j less. false_from_ne_true (p j) (λ h. let found = some j (omega (arith, less, here.0)) h in both_ways (pair_before (j, found.0) q) (least.1 j found.0 found.1) (lower_first j found.0 q.0 q.1 less)))
