-- Pairs in order: what a sort by the order of pairs says by their numbers.
use Rattle.std.proofs.Common.{◌≡◌, ℕ, ◌<◌, Bool, false, ◌||◌, ◌&&◌, Less, Equal, Greater, sym, ◌∙◌, ap, ap₂, inl, inr, arith}
use Rattle.std.specs.Prelude.{nat_lt, ◌==◌}
use Rattle.std.specs.{Bool.Decides, Cmp.IsStrictWeakOrder, Cmp.IsTotalOrder}
use Rattle.std.specs.Ordering.{is_lt, nat_cmp, ordering_then}
use Rattle.std.proofs.lemmas.Bool.{and_parts, and_from, cases_order, cond-true, cond-false, eq-eqb, eqb-true, le-ltb, lt-ltb, ne_eqb, or_left, or_right, both_ways}
use Rattle.std.proofs.lemmas.Cmp.{nat_cmp_total, on_total, then_total}
use Rattle.std.proofs.lemmas.List.Sorted.{ranks_by}
use Rattle.loc_spec_plane.specs.Tables.{pair_before}
use Rattle.loc_node.proofs.Placed.{nat_lt_is}
use Rattle.loc_valid.specs.Pinches.{pair_cmp, same_pair}

-- the order of pairs, as a test
abbrev pub pair_lt : ℕ × ℕ → ℕ × ℕ → Bool
pair_lt a b = is_lt (pair_cmp a b)

pair_total : IsTotalOrder pair_cmp
pair_total = then_total (on_total (λ (p : ℕ × ℕ). p.0) nat_cmp_total) (on_total (λ (p : ℕ × ℕ). p.1) nat_cmp_total)

pub pair_order : IsStrictWeakOrder pair_lt
pair_order = ranks_by pair_total (λ (p : ℕ × ℕ). p)

less_is : (x y : ℕ) → x < y → nat_cmp x y ≡ Less
less_is x y lt = cond-true (nat_lt x y) _ _ (lt-ltb x y lt)

equal_is : (x y : ℕ) → x ≡ y → nat_cmp x y ≡ Equal
equal_is x y same = cond-false (nat_lt x y) _ _ (le-ltb x y (omega arith)) ∙ cond-true (x == y) _ _ (eq-eqb x y same)

greater_is : (x y : ℕ) → y < x → nat_cmp x y ≡ Greater
greater_is x y gt = cond-false (nat_lt x y) _ _ (le-ltb x y (omega arith)) ∙ cond-false (x == y) _ _ (ne_eqb x y (λ e. omega arith))

-- it is the order of pairs by their numbers
pub lt_is : (a b : ℕ × ℕ) → pair_lt a b ≡ pair_before a b
lt_is a b = elim (cases_order a.0 b.0) [
  | inl same ↦ ap (λ o. is_lt (ordering_then o (nat_cmp a.1 b.1))) (equal_is a.0 b.0 same) ∙ (nat_lt_is a.1 b.1 ∙ sym (ap₂ (λ p q. p || (q && nat_lt a.1 b.1)) (le-ltb a.0 b.0 (omega arith)) (eq-eqb a.0 b.0 same)))
  | inr differ ↦ elim differ [
    | inl lt ↦ ap (λ o. is_lt (ordering_then o (nat_cmp a.1 b.1))) (less_is a.0 b.0 lt) ∙ sym (or_left (nat_lt a.0 b.0) ((a.0 == b.0) && nat_lt a.1 b.1) (lt-ltb a.0 b.0 lt))
    | inr gt ↦ ap (λ o. is_lt (ordering_then o (nat_cmp a.1 b.1))) (greater_is a.0 b.0 gt) ∙ sym (ap₂ (λ p q. p || (q && nat_lt a.1 b.1)) (le-ltb a.0 b.0 (omega arith)) (ne_eqb a.0 b.0 (λ e. omega arith)))
  ]
]

-- pairs of which neither is less are one
pub neither_less : (a b : ℕ × ℕ) → pair_lt a b ≡ false → pair_lt b a ≡ false → a ≡ b
neither_less a b not_ab not_ba = elim (cases_order a.0 b.0) [
  | inl same ↦ elim (cases_order a.1 b.1) [
    | inl same_too ↦ ap₂ (λ m n. (m, n)) same same_too
    | inr differ ↦ elim differ [
      | inl lt ↦ absurd (both_ways (pair_lt a b) not_ab (lt_is a b ∙ or_right (nat_lt a.0 b.0) ((a.0 == b.0) && nat_lt a.1 b.1) (and_from _ _ (eq-eqb a.0 b.0 same) (lt-ltb a.1 b.1 lt))))
      | inr gt ↦ absurd (both_ways (pair_lt b a) not_ba (lt_is b a ∙ or_right (nat_lt b.0 a.0) ((b.0 == a.0) && nat_lt b.1 a.1) (and_from _ _ (eq-eqb b.0 a.0 (sym same)) (lt-ltb b.1 a.1 gt))))
    ]
  ]
  | inr differ ↦ elim differ [
    | inl lt ↦ absurd (both_ways (pair_lt a b) not_ab (lt_is a b ∙ or_left (nat_lt a.0 b.0) ((a.0 == b.0) && nat_lt a.1 b.1) (lt-ltb a.0 b.0 lt)))
    | inr gt ↦ absurd (both_ways (pair_lt b a) not_ba (lt_is b a ∙ or_left (nat_lt b.0 a.0) ((b.0 == a.0) && nat_lt b.1 a.1) (lt-ltb b.0 a.0 gt)))
  ]
]

-- one pair, as a test
pub same_pair_decides : (a b : ℕ × ℕ) → Decides (same_pair a b) (a ≡ b)
same_pair_decides a b = (
  λ h. (let parts = and_parts (a.0 == b.0) (a.1 == b.1) h in ap₂ (λ m n. (m, n)) (eqb-true a.0 b.0 parts.0) (eqb-true a.1 b.1 parts.1)),
  λ e. and_from _ _ (eq-eqb a.0 b.0 (ap (λ (p : ℕ × ℕ). p.0) e)) (eq-eqb a.1 b.1 (ap (λ (p : ℕ × ℕ). p.1) e)),
)
