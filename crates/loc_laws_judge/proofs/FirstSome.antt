-- What is found first among numbers.
use Rattle.std.proofs.Common.{◌≡◌, ℕ, zero, suc, ◌+◌, ◌<◌, ◌≤◌, Bool, true, false, get_or, refl, sym, ◌∙◌, subst, arith, inl, inr}
use Rattle.std.specs.Prelude.{◌≢◌, Option, Some, None}
use Rattle.std.specs.{Option.option_or, List.range_with_len, List.list_all}
use Rattle.std.proofs.lemmas.Bool.{cases_eq}
use Rattle.std.proofs.lemmas.List.FromFn.{get_or-range_with_len, length-range_with_len}
use Rattle.std.proofs.{lemmas.List.Sums.list_all-from_AllPass, lemmas.Option.none-some}
use Rattle.loc_spec_plane.specs.Lists.{numbers}
use Rattle.loc_spec_index.specs.Flaws.{Flaw}
use Rattle.loc_laws_judge.specs.FirstFlaw.{first_some, flaw_if}

-- nothing is found in either of two
pub or-none : {Y : Type 0} (a b : Option Y) → option_or a b ≡ None → (a ≡ None) × (b ≡ None)
or-none None b h = (refl, h)
or-none (Some y) b h = absurd (none-some y (sym h))

-- no flaw: the test fails
pub flaw-none : (b : Bool) (flaw : Flaw) → flaw_if b flaw ≡ None → b ≡ false
flaw-none true flaw h = absurd (none-some flaw (sym h))
flaw-none false flaw h = refl

module _ {Y : Type 0} (f : ℕ → Option Y) where
  none_in : (n a : ℕ) → first_some f (range_with_len a n) ≡ None → (m : ℕ) → a ≤ m → m < a + n → f m ≡ None
  none_in zero a h m low high = absurd (omega (arith, low, high))
  none_in (suc n) a h m low high =
      let parts = or-none (f a) (first_some f (range_with_len (a + 1) n)) h in
      elim (cases_eq a m) [
        | inl same ↦ subst (λ k. f k ≡ None) same parts.0
        | inr other ↦ none_in n (a + 1) parts.1 m (let ne : a ≢ m = other in omega (arith, ne, low)) (omega (arith, high))
      ]

  -- nothing is found at any number below n
  pub none_below : (n : ℕ) → first_some f (numbers n) ≡ None → (m : ℕ) → m < n → f m ≡ None
  none_below n h m less = none_in n 0 h m (omega arith) (omega (arith, less))

  -- the least number from a on and below a bound at which something is found
  pub record IsLeastIn (a bound : ℕ) (y : Y) : Type 0 where
    pub number : ℕ
    pub from : a ≤ number
    pub below : number < bound
    pub found : f number ≡ Some y
    pub earlier : (m : ℕ) → a ≤ m → m < number → f m ≡ None

  some_in : (n a : ℕ) (y : Y) → first_some f (range_with_len a n) ≡ Some y → IsLeastIn a (a + n) y
  some_in zero a y h = absurd (none-some y h)
  some_in (suc n) a y h = by (f a) refl (some_in n (a + 1) y) h
    where
      by : (o : Option Y) → f a ≡ o → (first_some f (range_with_len (a + 1) n) ≡ Some y → IsLeastIn (a + 1) ((a + 1) + n) y) → option_or o (first_some f (range_with_len (a + 1) n)) ≡ Some y → IsLeastIn a (a + suc n) y
      by (Some x) is later h = record { number = a; from = omega arith; below = omega arith; found = is ∙ h; earlier = λ m low high. absurd (omega (arith, low, high)) }
      by None is later h =
          let l = later h in
          let from : a + 1 ≤ l.number = l.from in
          let below : l.number < (a + 1) + n = l.below in
          record {
            number = l.number;
            from = omega (arith, from);
            below = omega (arith, below);
            found = l.found;
            earlier = λ m low high. elim (cases_eq a m) [
              | inl same ↦ subst (λ k. f k ≡ None) same is
              | inr other ↦ l.earlier m (let ne : a ≢ m = other in omega (arith, ne, low)) high
            ];
          }

  -- something is found: at the least number below n at which something is
  pub some_below : (n : ℕ) (y : Y) → first_some f (numbers n) ≡ Some y → IsLeastIn 0 n y
  some_below n y h = let e : 0 + n ≡ n = omega arith in subst (λ k. IsLeastIn 0 k y) e (some_in n 0 y h)

-- a test that all numbers below n pass
pub all_below : (test : ℕ → Bool) (n : ℕ) → ((m : ℕ) → m < n → test m ≡ true) → list_all test (numbers n) ≡ true
all_below test n each = list_all-from_AllPass test (numbers n) (λ i d less.
    (let fits : i < n = omega (arith, less, length-range_with_len 0 n) in
    let at : get_or (numbers n) i d ≡ i = get_or-range_with_len 0 n i d fits ∙ omega arith in
    subst (λ k. test k ≡ true) (sym at) (each i fits)))
