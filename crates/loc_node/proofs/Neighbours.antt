-- Edges between neighbours, one more at a time; and what is kept of a sorted set.
use Rattle.std.proofs.Common.{◌≡◌, ℕ, zero, suc, ◌+◌, ◌-◌, ◌<◌, ◌≤◌, Bool, true, ◌&&◌, ◌||◌, List, [], ◌∷◌, ◌++◌, filter, get_or, length, take, refl, sym, ◌∙◌, ap, subst, inl, inr, arith}
use Rattle.std.specs.{List.list_any, List.Sorted.IsPermutation}
use Rattle.std.proofs.lemmas.Bool.{cases_Bool, cond-true, cond-false}
use Rattle.std.proofs.{lemmas.List.get_or_default, lemmas.List.Sorted.list_any-IsPermutation}
use Rattle.loc_spec_plane.specs.{Points.Point, Points.Edge, Points.before, Lists.is_rising, Lists.sorted_set}
use Rattle.loc_spec_plane.specs.{Rings.segment_between, Tables.neighbour_edges}
use Rattle.loc_laws_order.proofs.{Kept.rising_kept, TableOrder.rises}
use Rattle.loc_laws_noding.proofs.{Lines.from_to, Orders.points_by_before}
use Rattle.loc_laws_noding.proofs.SortedSet.{any-sorted_set, is-sorted_set, rising-sorted_set, same-sorted_set}

-- one point more is one edge more
one_more : (ps : List Point) (i : ℕ) (d : Point) → suc i < length ps → neighbour_edges (take (suc (suc i)) ps) ≡ neighbour_edges (take (suc i) ps) ++ from_to (get_or ps i d) (get_or ps (suc i) d) ∷ []
one_more [] i d fits = absurd (omega arith)
one_more (p ∷ []) i d fits = absurd (omega arith)
one_more (p ∷ q ∷ ps) zero d fits = refl
one_more (p ∷ q ∷ ps) (suc i) d fits = ap (λ es. from_to p q ∷ es) (one_more (q ∷ ps) i d (omega arith))

-- the edge between two points in order
pub between_is : (p q : Point) → before p q ≡ true → segment_between p q ≡ from_to p q
between_is p q h = cond-true (before p q) (from_to p q) (from_to q p) h

-- neighbours are in order
pub step_up : (ps : List Point) (i : ℕ) (a b : Point) → is_rising before ps ≡ true → 1 ≤ i → i < length ps → a ≡ get_or ps (i - 1) a → b ≡ get_or ps i b → before a b ≡ true
step_up ps i a b rise from to is_a is_b =
    let low : a ≡ get_or ps (i - 1) b = is_a ∙ get_or_default ps (i - 1) a b (omega arith) in
    subst (λ p. before p b ≡ true) (sym low) (subst (λ q. before (get_or ps (i - 1) b) q ≡ true) (sym is_b) (rises before b ps (i - 1) i rise (omega arith) to))

-- as a loop over them goes
pub step : (ps : List Point) (i : ℕ) (a b : Point) (es : List Edge) (e : Edge) → is_rising before ps ≡ true → 1 ≤ i → i < length ps → a ≡ get_or ps (i - 1) a → b ≡ get_or ps i b → e ≡ segment_between a b → es ≡ neighbour_edges (take i ps)
    → es ++ e ∷ [] ≡ neighbour_edges (take (i + 1) ps)
step ps i a b es e rise from to is_a is_b is so_far =
    let k = i - 1 in
    let at : i ≡ suc k = omega (arith, from) in
    let next : i + 1 ≡ suc (suc k) = omega (arith, from) in
    let low : a ≡ get_or ps k b = is_a ∙ get_or_default ps k a b (omega (arith, to)) in
    let high : b ≡ get_or ps (suc k) b = is_b ∙ ap (λ n. get_or ps n b) at in
    let made : e ≡ from_to (get_or ps k b) (get_or ps (suc k) b) = is ∙ (between_is a b (step_up ps i a b rise from to is_a is_b) ∙ (ap (λ p. from_to p b) low ∙ ap (from_to (get_or ps k b)) high)) in
    ap (λ xs. xs ++ e ∷ []) (so_far ∙ ap (λ n. neighbour_edges (take n ps)) at)
    ∙ (ap (λ x. neighbour_edges (take (suc k) ps) ++ x ∷ []) made
    ∙ (sym (one_more ps k b (omega (arith, to, at))) ∙ ap (λ n. neighbour_edges (take n ps)) (sym next)))

-- a test of what is kept
any_kept : (keeps test : Point → Bool) (ps : List Point) → list_any test (filter keeps ps) ≡ list_any (λ p. keeps p && test p) ps
any_kept keeps test [] = refl
any_kept keeps test (p ∷ ps) = elim (cases_Bool (keeps p)) [
  | inl kept ↦ ap (list_any test) (cond-true (keeps p) (p ∷ filter keeps ps) (filter keeps ps) kept) ∙ (ap (λ b. test p || b) (any_kept keeps test ps) ∙ ap (λ k. (k && test p) || list_any (λ q. keeps q && test q) ps) (sym kept))
  | inr left ↦ ap (list_any test) (cond-false (keeps p) (p ∷ filter keeps ps) (filter keeps ps) left) ∙ (any_kept keeps test ps ∙ ap (λ k. (k && test p) || list_any (λ q. keeps q && test q) ps) (sym left))
]

-- the sorted set of what is kept is what is kept of the sorted set
pub kept_sorted : (keeps : Point → Bool) (ps : List Point) → sorted_set before (filter keeps ps) ≡ filter keeps (sorted_set before ps)
kept_sorted keeps ps = sym (is-sorted_set points_by_before (filter keeps ps) (filter keeps (sorted_set before ps)) (rising_kept keeps before (sorted_set before ps) (rising-sorted_set points_by_before ps))
    (λ test. any_kept keeps test (sorted_set before ps) ∙ (any-sorted_set points_by_before (λ p. keeps p && test p) ps ∙ sym (any_kept keeps test ps))))

-- points in another order have one sorted set, which is those in order
pub moved_sorted : (corners points : List Point) → is_rising before corners ≡ true → IsPermutation corners points → sorted_set before points ≡ corners
moved_sorted corners points rise moved = sym (is-sorted_set points_by_before points corners rise (λ test. list_any-IsPermutation test corners points moved))

-- points and the same points in another order have one sorted set
pub same_sorted : (ps qs : List Point) → IsPermutation ps qs → sorted_set before qs ≡ sorted_set before ps
same_sorted ps qs moved = same-sorted_set points_by_before qs ps (λ test. sym (list_any-IsPermutation test ps qs moved))
