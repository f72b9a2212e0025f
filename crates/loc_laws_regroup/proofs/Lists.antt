-- Facts of each element of lists that are mapped and put one behind the other.
use Rattle.std.proofs.Common.{◌≡◌, zero, suc, Bool, true, false, cond, filter, List, [], ◌∷◌, ◌++◌, map, flat_map, refl, ap₂, arith}
use Rattle.std.specs.{Prelude.All, List.AllByRecursion}

module _ {X : Type 0} (P : X → Type 0) where
  -- of two lists, one behind the other
  pub all_append : (xs ys : List X) → AllByRecursion P xs → AllByRecursion P ys → AllByRecursion P (xs ++ ys)
  all_append [] ys first second = second
  all_append (x ∷ xs) ys first second = (first.0, all_append xs ys first.1 second)

  -- and of each of the two
  pub all_parts : (xs ys : List X) → AllByRecursion P (xs ++ ys) → AllByRecursion P xs × AllByRecursion P ys
  all_parts [] ys good = (tt, good)
  all_parts (x ∷ xs) ys good = let rest = all_parts xs ys good.1 in ((good.0, rest.0), rest.1)

  -- the same fact by the number of the element
  pub all_by_number : (xs : List X) → AllByRecursion P xs → All P xs
  all_by_number [] good k d less = absurd (omega (arith, less))
  all_by_number (x ∷ xs) good zero d less = good.0
  all_by_number (x ∷ xs) good (suc k) d less = all_by_number xs good.1 k d (omega (arith, less))

  -- and the converse
  pub all_each : (xs : List X) → All P xs → AllByRecursion P xs
  all_each [] good = tt
  all_each (x ∷ xs) good = (good 0 x (omega arith), all_each xs (λ k d less. good (suc k) d (omega (arith, less))))

  -- of the elements that pass a test
  pub all_kept : (p : X → Bool) (xs : List X) → AllByRecursion P xs → AllByRecursion P (filter p xs)
  all_kept p [] good = tt
  all_kept p (x ∷ xs) good = by (p x) (all_kept p xs good.1)
    where
      by : (b : Bool) → AllByRecursion P (filter p xs) → AllByRecursion P (cond b (x ∷ filter p xs) (filter p xs))
      by true rest = (good.0, rest)
      by false rest = rest

-- and those pass it
pub kept_pass : {X : Type 0} (p : X → Bool) (xs : List X) → AllByRecursion (λ x. p x ≡ true) (filter p xs)
kept_pass p [] = tt
kept_pass p (x ∷ xs) = by (p x) refl (kept_pass p xs)
  where
    by : (b : Bool) → p x ≡ b → AllByRecursion (λ x. p x ≡ true) (filter p xs) → AllByRecursion (λ x. p x ≡ true) (cond b (x ∷ filter p xs) (filter p xs))
    by true pass rest = (pass, rest)
    by false pass rest = rest

-- of a fact that follows
pub all_to : {X : Type 0} (P Q : X → Type 0) → ((x : X) → P x → Q x) → (xs : List X) → AllByRecursion P xs → AllByRecursion Q xs
all_to P Q each [] good = tt
all_to P Q each (x ∷ xs) good = (each x good.0, all_to P Q each xs good.1)

module _ {X Y : Type 0} (P : X → Type 0) (Q : Y → Type 0) where
  -- of a mapped list
  pub all_map : (f : X → Y) → ((x : X) → P x → Q (f x)) → (xs : List X) → AllByRecursion P xs → AllByRecursion Q (map f xs)
  all_map f each [] good = tt
  all_map f each (x ∷ xs) good = (each x good.0, all_map f each xs good.1)

  -- of lists that are joined
  pub all_flat : (f : X → List Y) → ((x : X) → P x → AllByRecursion Q (f x)) → (xs : List X) → AllByRecursion P xs → AllByRecursion Q (flat_map f xs)
  all_flat f each [] good = tt
  all_flat f each (x ∷ xs) good = all_append Q (f x) (flat_map f xs) (each x good.0) (all_flat f each xs good.1)

-- of joined lists, of each of them
pub flat_each : {X Y : Type 0} (Q : Y → Type 0) (f : X → List Y) (xs : List X) → AllByRecursion Q (flat_map f xs) → AllByRecursion (λ x. AllByRecursion Q (f x)) xs
flat_each Q f [] good = tt
flat_each Q f (x ∷ xs) good = let parts = all_parts Q (f x) (flat_map f xs) good in (parts.0, flat_each Q f xs parts.1)

-- of two facts together
pub all_both : {X : Type 0} (P Q R : X → Type 0) → ((x : X) → P x → Q x → R x) → (xs : List X) → AllByRecursion P xs → AllByRecursion Q xs → AllByRecursion R xs
all_both P Q R each [] first second = tt
all_both P Q R each (x ∷ xs) first second = (each x first.0 second.0, all_both P Q R each xs first.1 second.1)

-- what is mapped twice is mapped by what both give
pub map_twice : {X Y Z : Type 0} (P : X → Type 0) (f : Y → Z) (g : X → Y) (h : X → Z) → ((x : X) → P x → f (g x) ≡ h x) → (xs : List X) → AllByRecursion P xs → map f (map g xs) ≡ map h xs
map_twice P f g h each [] good = refl
map_twice P f g h each (x ∷ xs) good = ap₂ (λ a b. a ∷ b) (each x good.0) (map_twice P f g h each xs good.1)

-- and where both give each element back, so does the list
pub map_back : {X Y : Type 0} (P : X → Type 0) (f : Y → X) (g : X → Y) → ((x : X) → P x → f (g x) ≡ x) → (xs : List X) → AllByRecursion P xs → map f (map g xs) ≡ xs
map_back P f g each [] good = refl
map_back P f g each (x ∷ xs) good = ap₂ (λ a b. a ∷ b) (each x good.0) (map_back P f g each xs good.1)
