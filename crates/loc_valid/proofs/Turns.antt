-- The two least numbers that stand in a list an odd number of times, member by member.
use Rattle.std.proofs.Common.{◌≡◌, ℕ, zero, suc, ◌+◌, ◌<◌, ◌≤◌, Bool, true, false, ◌&&◌, not, List, [], ◌∷◌, length, take, get_or, refl, sym, ◌∙◌, ap, subst, inl, inr, arith}
use Rattle.std.specs.Prelude.{◌==◌, Some, None}
use Rattle.std.proofs.lemmas.Bool.{and_from, and_parts, both_ways, cases_Bool, cases_eq, cond-false, cond-true, eq-eqb, eqb-true, false_from_ne_true, ne_eqb, true≢false}
use Rattle.loc_spec_plane.specs.{Lists.exactly_one, Lists.odd_many, Tables.pair_before}
use Rattle.loc_laws_rays.proofs.Parity.{exactly_one_comm, exactly_one_same, odd_many-take_more}
use Rattle.loc_valid.specs.declared.least.Least.{Least}
use Rattle.loc_valid.specs.declared.least.Least.TheVariants.{Zero, One, Two}
use Rattle.loc_valid.specs.Hits.{AreLeast, IsLeast, other_than, turned_by}
use Rattle.loc_valid.proofs.Minima.{not_lower}

-- tests that are one have the same two least
pub same_least : (f g : ℕ → Bool) → ((m : ℕ) → f m ≡ g m) → (least : Least) → AreLeast f least → AreLeast g least
same_least f g same Zero are = λ m. sym (same m) ∙ are m
same_least f g same (One a) are = λ m. sym (same m) ∙ are m
same_least f g same (Two a b) are = (are.0, sym (same a) ∙ are.1, sym (same b) ∙ are.2, λ m h. are.3 m (same m ∙ h))

strictly_below : (a n : ℕ) → a ≤ n → (a ≡ n → ⊥) → a < n
strictly_below a n le other = elim (cases_eq a n) [ inl same ↦ absurd (other same) | inr _ ↦ omega arith ]

module _ (odd : ℕ → Bool) (n : ℕ) (below : (m : ℕ) → odd m ≡ true → m ≤ n) where
  abbrev turned : ℕ → Bool
  turned m = exactly_one (odd m) (n == m)

  -- other numbers are as they were
  kept : (m : ℕ) → (n ≡ m → ⊥) → turned m ≡ odd m
  kept m other = ap (exactly_one (odd m)) (ne_eqb n m other) ∙ plain (odd m)
    where
      plain : (b : Bool) → exactly_one b false ≡ b
      plain true = refl
      plain false = refl

  -- n itself is turned
  at : turned n ≡ not (odd n)
  at = ap (exactly_one (odd n)) (eq-eqb n n refl) ∙ flipped (odd n)
    where
      flipped : (b : Bool) → exactly_one b true ≡ not b
      flipped true = refl
      flipped false = refl

  pub turn : (least : Least) → AreLeast odd least → AreLeast turned (turned_by least n)
  turn Zero are = λ m. ap (λ b. exactly_one b (n == m)) (are m)
  turn (One a) are = elim (cases_eq a n) [
    | inl same ↦ subst (AreLeast turned) (sym (cond-true (a == n) Zero (Two a n) (eq-eqb a n same)))
        (λ m. ap (λ b. exactly_one b (n == m)) (are m ∙ ap (λ k. k == m) same) ∙ exactly_one_same (n == m))
    | inr other ↦ subst (AreLeast turned) (sym (cond-false (a == n) Zero (Two a n) (ne_eqb a n other)))
        (let has_a : odd a ≡ true = are a ∙ eq-eqb a a refl in
        let le = below a has_a in (
          strictly_below a n le other,
          kept a (λ e. other (sym e)) ∙ has_a,
          at ∙ ap not (are n ∙ ne_eqb a n other),
          λ m h. elim (cases_eq n m) [
            | inl here ↦ inr (omega arith)
            | inr off ↦ inl (eqb-true a m (sym (are m) ∙ (sym (kept m off) ∙ h)))
          ],
        ))
  ]
  turn (Two a b) are = elim (cases_eq b n) [
    | inl same ↦ subst (AreLeast turned) (sym (cond-true (b == n) (One a) (Two a b) (eq-eqb b n same)))
        (λ m. elim (cases_eq n m) [
          | inl here ↦ ap turned (sym here) ∙ (at ∙ (ap not (subst (λ k. odd k ≡ true) same are.2) ∙ sym (ne_eqb a m (λ e. omega (arith, are.0, same, here, e)))))
          | inr off ↦ (let plain : odd m ≡ (a == m) = elim (cases_eq a m) [
            | inl first ↦ (subst (λ k. odd k ≡ true) first are.1) ∙ sym (eq-eqb a m first)
            | inr other ↦ false_from_ne_true (odd m) (λ h. elim (are.3 m h) [ inl first ↦ other first | inr more ↦ off (omega (arith, more, same, below m h)) ]) ∙ sym (ne_eqb a m other)
          ] in kept m off ∙ plain)
        ])
    | inr other ↦ subst (AreLeast turned) (sym (cond-false (b == n) (One a) (Two a b) (ne_eqb b n other)))
        (let le = below b are.2 in (
          are.0,
          kept a (λ e. omega (arith, are.0, le, e)) ∙ are.1,
          kept b (λ e. other (sym e)) ∙ are.2,
          λ m h. elim (cases_eq n m) [
            | inl here ↦ inr (omega (arith, le, here))
            | inr off ↦ are.3 m (sym (kept m off) ∙ h)
          ],
        ))
  ]

-- one member more
pub turn_more : (home : ℕ → ℕ) (list : List ℕ) (i : ℕ) (least : Least) → i < length list → ((m : ℕ) → odd_many (λ q. home q == m) (take i list) ≡ true → m ≤ home (get_or list i 0))
    → AreLeast (λ m. odd_many (λ q. home q == m) (take i list)) least → AreLeast (λ m. odd_many (λ q. home q == m) (take (i + 1) list)) (turned_by least (home (get_or list i 0)))
turn_more home list i least lt below are =
    same_least (λ m. exactly_one (odd_many (λ q. home q == m) (take i list)) (home (get_or list i 0) == m)) (λ m. odd_many (λ q. home q == m) (take (i + 1) list))
    (λ m. exactly_one_comm (odd_many (λ q. home q == m) (take i list)) (home (get_or list i 0) == m) ∙ sym (odd_many-take_more (λ q. home q == m) list i 0 lt))
    (turned_by least (home (get_or list i 0)))
    (turn (λ m. odd_many (λ q. home q == m) (take i list)) (home (get_or list i 0)) below least are)

-- where an odd number of members pass, one does
odd_at : (p : ℕ → Bool) (i : ℕ) (list : List ℕ) → odd_many p (take i list) ≡ true → (j : ℕ) × (j < i) × (p (get_or list j 0) ≡ true)
odd_at p zero list h = absurd (true≢false (sym h))
odd_at p (suc i) [] h = absurd (true≢false (sym h))
odd_at p (suc i) (x ∷ xs) h = elim (cases_Bool (p x)) [
  | inl here ↦ (0, omega arith, here)
  | inr off ↦ (let rest = odd_at p i xs (sym (ap (λ b. exactly_one b (odd_many p (take i xs))) off) ∙ h) in (suc rest.0, omega (arith, rest.1), rest.2))
]

-- one member more, where later members have no lower numbers
pub turn_climbing : (home : ℕ → ℕ) (list : List ℕ) (i : ℕ) (least : Least) → i < length list → ((a b : ℕ) → a ≤ b → b < length list → home (get_or list a 0) ≤ home (get_or list b 0))
    → AreLeast (λ m. odd_many (λ q. home q == m) (take i list)) least → AreLeast (λ m. odd_many (λ q. home q == m) (take (i + 1) list)) (turned_by least (home (get_or list i 0)))
turn_climbing home list i least lt climbs are = turn_more home list i least lt
    (λ m h. (let found = odd_at (λ q. home q == m) i list h in omega (arith, eqb-true (home (get_or list found.0 0)) m found.2, climbs found.0 i (omega (arith, found.1)) lt)))
    are

-- ---- the least that is another
module _ (odd : ℕ → Bool) (n : ℕ) where
  abbrev pub other_odd : ℕ → ℕ → Bool
  other_odd j k = (n == j) && (not (j == k) && odd k)

  passes : (k : ℕ) → (n ≡ k → ⊥) → odd k ≡ true → other_odd n k ≡ true
  passes k other h = and_from _ _ (eq-eqb n n refl) (and_from _ _ (ap not (ne_eqb n k other)) h)

  -- what passes is n and another odd number
  parts : (j k : ℕ) → other_odd j k ≡ true → (n ≡ j) × (n ≡ k → ⊥) × (odd k ≡ true)
  parts j k h =
      let first = and_parts (n == j) (not (j == k) && odd k) h in
      let second = and_parts (not (j == k)) (odd k) first.1 in
      let same = eqb-true n j first.0 in
      (same, λ e. both_ways (not (j == k)) (ap not (eq-eqb j k (sym same ∙ e))) second.0, second.1)

  one : (a : ℕ) → (n ≡ a → ⊥) → odd a ≡ true → ((k : ℕ) → (n ≡ k → ⊥) → odd k ≡ true → a ≤ k) → IsLeast other_odd (Some (n, a))
  one a other h least = (passes a other h, λ j k there. (let is = parts j k there in ap (λ i. pair_before (i, k) (n, a)) (sym is.0) ∙ not_lower n k a (least k is.1 is.2)))

  pub other : (least : Least) → AreLeast odd least → IsLeast other_odd (other_than least n)
  other Zero are = λ j k. false_from_ne_true (other_odd j k) (λ h. both_ways (odd k) (are k) (parts j k h).2)
  other (One a) are = elim (cases_eq a n) [
    | inl same ↦ subst (IsLeast other_odd) (sym (cond-true (a == n) None (Some (n, a)) (eq-eqb a n same)))
        (λ j k. false_from_ne_true (other_odd j k) (λ h. let is = parts j k h in is.1 (sym same ∙ eqb-true a k (sym (are k) ∙ is.2))))
    | inr differ ↦ subst (IsLeast other_odd) (sym (cond-false (a == n) None (Some (n, a)) (ne_eqb a n differ)))
        (one a (λ e. differ (sym e)) (are a ∙ eq-eqb a a refl) (λ k off h. (let e = eqb-true a k (sym (are k) ∙ h) in omega (arith, e))))
  ]
  other (Two a b) are = elim (cases_eq a n) [
    | inl same ↦ subst (IsLeast other_odd) (sym (cond-true (a == n) (Some (n, b)) (Some (n, a)) (eq-eqb a n same)))
        (one b (λ e. omega (arith, are.0, same, e)) are.2 (λ k off h. elim (are.3 k h) [ inl first ↦ absurd (off (sym same ∙ first)) | inr more ↦ more ]))
    | inr differ ↦ subst (IsLeast other_odd) (sym (cond-false (a == n) (Some (n, b)) (Some (n, a)) (ne_eqb a n differ)))
        (one a (λ e. differ (sym e)) are.1 (λ k off h. elim (are.3 k h) [ inl first ↦ omega (arith, first) | inr more ↦ omega (arith, are.0, more) ]))
  ]
