-- All numbers of a layer, and the features with them.
use Rattle.std.proofs.Common.{◌≡◌, ℕ, zero, suc, ◌+◌, Bool, true, false, not, ◌&&◌, ◌||◌, List, [], ◌∷◌, length, get_or, refl, sym, ◌∙◌, ap, arith}
use Rattle.std.specs.{Prelude.nat_lt, List.list_all, List.list_any, List.range_with_len}
use Rattle.std.proofs.{lemmas.Bool.and_from, lemmas.Bool.le-ltb, lemmas.Bool.lt-ltb, lemmas.List.FromFn.fill_by_all}
use Rattle.loc_spec_plane.specs.Lists.{is_in, numbers}
use Rattle.loc_laws_order.proofs.Kept.{is_in-range, numbers_rise}
use Rattle.loc_rings.specs.Values.{Feature}
use Rattle.loc_parts.specs.Parts.{AreNumbersOf, features_with, no_rings}

-- the features with all numbers are the layer
pub all_features : (layer : List Feature) → features_with (numbers (length layer)) layer ≡ layer
all_features layer = sym (fill_by_all (λ n. get_or layer n no_rings) layer (length layer) no_rings refl (λ n lt. refl))

-- a number is one of all exactly where it is below their count
pub in_all : (n count : ℕ) → list_any (is_in n) (numbers count ∷ []) ≡ nat_lt n count
in_all n count = or_nothing (is_in n (numbers count)) ∙ (is_in-range 0 count n ∙ below)
  where
    or_nothing : (b : Bool) → (b || false) ≡ b
    or_nothing true = refl
    or_nothing false = refl

    below : (not (nat_lt n 0) && nat_lt n (0 + count)) ≡ nat_lt n count
    below = let same : 0 + count ≡ count = omega arith in ap (λ k. not (nat_lt n 0) && nat_lt n k) same ∙ ap (λ b. not b && nat_lt n count) (le-ltb n 0 (omega arith))

-- all numbers of a layer
pub all_numbers : (layer : List Feature) → AreNumbersOf layer (numbers (length layer))
all_numbers layer = record {
  rise = numbers_rise (length layer);
  of_layer = within (length layer) 0 (length layer) (omega arith);
}
  where
    within : (count a k : ℕ) → a + k ≡ count → list_all (λ n. nat_lt n count) (range_with_len a k) ≡ true
    within count a zero same = refl
    within count a (suc k) same = and_from (nat_lt a count) (list_all (λ n. nat_lt n count) (range_with_len (a + 1) k)) (lt-ltb a count (omega arith)) (within count (a + 1) k (omega arith))
