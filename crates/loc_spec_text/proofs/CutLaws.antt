-- What a search for the first element that passes tells of the parts before and after it.
use Rattle.std.proofs.Common.{◌≡◌, ℕ, suc, ◌+◌, ◌<◌, ◌≤◌, List, [], ◌∷◌, ◌++◌, Bool, true, false, cond, length, Some, None, refl, sym, arith, take_all, drop_of_length-le, ltb-false, ltb-true, position}
use Rattle.std.specs.Prelude.{nat_lt}
use Rattle.std.specs.List.{before_first, after_first, position_or_len, list_all, list_any}
use Rattle.std.proofs.Math.Seq.{take-append_seam, drop-append-add}
use Rattle.std.proofs.{lemmas.Bool.and_parts, lemmas.Bool.or_parts, lemmas.Bool.or_from, lemmas.Option.cond_some}

cond_none : {A : Type 0} (b : Bool) (x : A) → cond b (Some x) None ≡ None → b ≡ false
cond_none true x e = absurd (cc)
cond_none false x e = refl

module _ {X : Type 0} (p : X → Bool) where
  -- where it finds none, none passes before the end
  pub place_none : (xs : List X) → position p xs ≡ None → length xs ≤ position_or_len p xs
  place_none xs e = ltb-false (position_or_len p xs) (length xs) (cond_none (nat_lt (position_or_len p xs) (length xs)) (position_or_len p xs) e)

  none_here : (x : X) (xs : List X) (b : Bool) → p x ≡ b → length (x ∷ xs) ≤ position_or_len p (x ∷ xs) → (length xs ≤ position_or_len p xs → list_any p xs ≡ false) → list_any p (x ∷ xs) ≡ false
  none_here x xs true e h more = absurd (let k : length (x ∷ xs) ≤ 0 = rw e at h in omega arith)
  none_here x xs false e h more = let k : suc (length xs) ≤ 1 + position_or_len p xs = rw e at h in rw e (more (omega arith))

  none_passes : (xs : List X) → length xs ≤ position_or_len p xs → list_any p xs ≡ false
  none_passes [] h = refl
  none_passes (x ∷ xs) h = none_here x xs (p x) refl h (none_passes xs)

  some_here : (x : X) (xs : List X) (b : Bool) → p x ≡ b → position_or_len p (x ∷ xs) < length (x ∷ xs) → (position_or_len p xs < length xs → list_any p xs ≡ true) → list_any p (x ∷ xs) ≡ true
  some_here x xs true e h more = rw e refl
  some_here x xs false e h more = let k : 1 + position_or_len p xs < suc (length xs) = rw e at h in rw e (more (omega arith))

  some_passes : (xs : List X) → position_or_len p xs < length xs → list_any p xs ≡ true
  some_passes [] h = absurd (omega arith)
  some_passes (x ∷ xs) h = some_here x xs (p x) refl h (some_passes xs)

  -- where a place is found, some member passes
  pub any_some : (xs : List X) (i : ℕ) → position p xs ≡ Some i → list_any p xs ≡ true
  any_some xs i e = some_passes xs (ltb-true (position_or_len p xs) (length xs) (cond_some (nat_lt (position_or_len p xs) (length xs)) (position_or_len p xs) i e).0)

  -- where none is found, nothing is cut off
  pub cut_none : (xs : List X) → position p xs ≡ None → (xs ≡ before_first p xs) × ([] ≡ after_first p xs) × (list_any p xs ≡ false)
  cut_none xs e =
      let long : length xs ≤ position_or_len p xs = ltb-false (position_or_len p xs) (length xs) (cond_none (nat_lt (position_or_len p xs) (length xs)) (position_or_len p xs) e) in
      (sym (take_all (position_or_len p xs) xs long), sym (drop_of_length-le xs (let k : length xs ≤ position_or_len p xs + 1 = omega arith in k)), none_passes xs long)

module _ {X : Type 0} (test : X → Bool) where
  nowhere : (xs : List X) → list_any test xs ≡ false → position_or_len test xs ≡ length xs
  nowhere [] none = refl
  nowhere (x ∷ xs) none = let parts = or_parts (test x) (list_any test xs) none in rw parts.0 (omega (arith, nowhere xs parts.1))

  -- behind elements that do not pass, the first that does is the first of the rest
  pub first_behind : (xs ys : List X) → list_any test xs ≡ false → position_or_len test (xs ++ ys) ≡ length xs + position_or_len test ys
  first_behind [] ys none = omega arith
  first_behind (x ∷ xs) ys none = let parts = or_parts (test x) (list_any test xs) none in rw parts.0 (omega (arith, first_behind xs ys parts.1))

  -- where no element passes, nothing is cut off
  pub uncut : (xs : List X) → list_any test xs ≡ false → (before_first test xs ≡ xs) × (after_first test xs ≡ [])
  uncut xs none = let end = nowhere xs none in (rw end (take_all (length xs) xs (omega arith)), rw end (drop_of_length-le xs (omega arith)))

  -- behind elements that do not pass, the first that does cuts
  pub cut : (xs : List X) (y : X) (ys : List X) → list_any test xs ≡ false → test y ≡ true → (before_first test (xs ++ (y ∷ ys)) ≡ xs) × (after_first test (xs ++ (y ∷ ys)) ≡ ys)
  cut xs y ys none here =
      let start : position_or_len test (y ∷ ys) ≡ 0 = rw here refl in
      let end : position_or_len test (xs ++ (y ∷ ys)) ≡ length xs = omega (arith, start, first_behind xs (y ∷ ys) none) in
      (rw end (take-append_seam xs (y ∷ ys)), rw end (drop-append-add xs (y ∷ ys) 1))

  -- elements that pass a test which excludes it
  pub none_of : (q : X → Bool) → ((x : X) → q x ≡ true → test x ≡ false) → (xs : List X) → list_all q xs ≡ true → list_any test xs ≡ false
  none_of q none [] all = refl
  none_of q none (x ∷ xs) all =
      let parts = and_parts (q x) (list_all q xs) all in
      or_from (test x) (list_any test xs) (none x parts.0) (none_of q none xs parts.1)
