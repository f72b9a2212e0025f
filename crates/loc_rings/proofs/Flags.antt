-- Lists of members by flags: one member more, and what both lists have together.
use Rattle.std.proofs.Common.{◌≡◌, ℕ, ◌+◌, ◌<◌, ◌≤◌, Bool, true, false, not, cond, List, [], ◌∷◌, ◌++◌, length, map, filter, get_or, refl, sym, ◌∙◌, ap, arith, append-nil, append_assoc, length-append}
use Rattle.std.specs.List.{sum_by, zip}
use Rattle.std.proofs.{lemmas.List.nil_from_length, lemmas.List.Sums.sum_by-append, lemmas.List.Sums.sum_by-cons}
use Rattle.loc_rings.specs.Flags.{flagged, unflagged}

-- the members whose flag passes a test
abbrev pub chosen : {X : Type 0} → (Bool → Bool) → List Bool → List X → List X
chosen {X} test flags xs = map (λ (pair : Bool × X). pair.1) (filter (λ (pair : Bool × X). test pair.0) (zip flags xs))

-- no members
pub none : {X : Type 0} (test : Bool → Bool) (flags : List Bool) → chosen {X = X} test flags [] ≡ []
none test [] = refl
none test (flag ∷ flags) = refl

-- the first member, where its flag passes
first : {X : Type 0} (test : Bool → Bool) (flag : Bool) (flags : List Bool) (x : X) (xs : List X) → chosen test (flag ∷ flags) (x ∷ xs) ≡ cond (test flag) (x ∷ chosen test flags xs) (chosen test flags xs)
first test flag flags x xs = by_case (test flag)
  where
    by_case : (b : Bool) → map (λ pair. pair.1) (cond b ((flag, x) ∷ filter (λ pair. test pair.0) (zip flags xs)) (filter (λ pair. test pair.0) (zip flags xs))) ≡ cond b (x ∷ chosen test flags xs) (chosen test flags xs)
    by_case true = refl
    by_case false = refl

-- one member more, at the end
pub chosen-more : {X : Type 0} (test : Bool → Bool) (flags : List Bool) (xs : List X) (x : X) → length xs < length flags → chosen test flags (xs ++ x ∷ []) ≡ chosen test flags xs ++ cond (test (get_or flags (length xs) false)) (x ∷ []) []
chosen-more test [] xs x lt = absurd (omega arith)
chosen-more test (flag ∷ flags) [] x lt = first test flag flags x [] ∙ ap (λ ys. cond (test flag) (x ∷ ys) ys) (none test flags)
chosen-more test (flag ∷ flags) (y ∷ ys) x lt =
    first test flag flags y (ys ++ x ∷ [])
    ∙ (ap (λ zs. cond (test flag) (y ∷ zs) zs) (chosen-more test flags ys x (omega arith))
    ∙ (split (test flag) (chosen test flags ys) (cond (test (get_or flags (length ys) false)) (x ∷ []) [])
    ∙ ap (λ zs. zs ++ cond (test (get_or flags (length ys) false)) (x ∷ []) []) (sym (first test flag flags y ys))))
  where
    split : (b : Bool) (zs ws : List _) → cond b (y ∷ (zs ++ ws)) (zs ++ ws) ≡ cond b (y ∷ zs) zs ++ ws
    split true zs ws = refl
    split false zs ws = refl

-- the flagged members and the others have together what all have
pub flags-sum : {X : Type 0} (f : X → ℕ) (flags : List Bool) (xs : List X) → length xs ≤ length flags → sum_by f (flagged flags xs) + sum_by f (unflagged flags xs) ≡ sum_by f xs
flags-sum f [] [] le = refl
flags-sum f [] (x ∷ xs) le = absurd (omega arith)
flags-sum f (flag ∷ flags) [] le = refl
flags-sum f (true ∷ flags) (x ∷ xs) le = omega (arith, flags-sum f flags xs (omega arith), sum_by-cons f x xs, sum_by-cons f x (flagged flags xs))
flags-sum f (false ∷ flags) (x ∷ xs) le = omega (arith, flags-sum f flags xs (omega arith), sum_by-cons f x xs, sum_by-cons f x (unflagged flags xs))

-- and are together as many as all
pub flags-length : {X : Type 0} (flags : List Bool) (xs : List X) → length xs ≤ length flags → length (flagged flags xs) + length (unflagged flags xs) ≡ length xs
flags-length [] [] le = refl
flags-length [] (x ∷ xs) le = absurd (omega arith)
flags-length (flag ∷ flags) [] le = refl
flags-length (true ∷ flags) (x ∷ xs) le = omega (arith, flags-length flags xs (omega arith))
flags-length (false ∷ flags) (x ∷ xs) le = omega (arith, flags-length flags xs (omega arith))

-- one member more, where its flag is known
pub flags-more : {X : Type 0} (test : Bool → Bool) (flags : List Bool) (xs : List X) (x : X) (flag passes : Bool) (made more : List X) → length xs < length flags → flag ≡ get_or flags (length xs) false → test flag ≡ passes → made ≡ chosen test flags xs
    → more ≡ made ++ cond passes (x ∷ []) [] → more ≡ chosen test flags (xs ++ x ∷ [])
flags-more test flags xs x flag passes made more lt is_flag tested is_made is_more =
    is_more
    ∙ (ap (λ ys. ys ++ cond passes (x ∷ []) []) is_made
    ∙ (ap (λ b. chosen test flags xs ++ cond b (x ∷ []) []) (sym tested ∙ ap test is_flag)
    ∙ sym (chosen-more test flags xs x lt)))

-- members that are parted by their flags so far, and those that are left
pub record IsParted {X : Type 0} (flags : List Bool) (xs left whole ks os : List X) : Type 0 where
  pub kept : ks ≡ flagged flags xs
  pub others : os ≡ unflagged flags xs
  pub all : xs ++ left ≡ whole

-- where none is left
pub parted-all : {X : Type 0} {flags : List Bool} {xs left whole kept others : List X} → IsParted flags xs left whole kept others → length left ≡ 0 → (kept ≡ flagged flags whole) × (others ≡ unflagged flags whole)
parted-all {X} {flags} {xs} {left} parted none_left =
    let same = sym (append-nil xs) ∙ (ap (λ ys. xs ++ ys) (sym (nil_from_length left none_left)) ∙ parted.all) in
    (parted.kept ∙ ap (flagged flags) same, parted.others ∙ ap (unflagged flags) same)

-- where there is a next one
module _ {X : Type 0} {flags : List Bool} {xs left whole kept others rest : List X} {x : X} (parted : IsParted flags xs left whole kept others) (next : left ≡ x ∷ rest) (as_many : length flags ≡ length whole) where
  split : xs ++ x ∷ rest ≡ whole
  split = ap (λ ys. xs ++ ys) (sym next) ∙ parted.all

  within : length xs < length flags
  within = omega (arith, length-append xs (x ∷ rest), ap length split, as_many)

  place : length kept + length others ≡ length xs
  place = omega (arith, ap length parted.kept, ap length parted.others, flags-length flags xs (omega (arith, within)))

  -- both lists are together as long as its place, which has a flag
  pub parted-place : length kept + length others < length flags
  parted-place = omega (arith, place, within)

  -- both lists have together no more than all, with it
  pub parted-fit : (f : X → ℕ) → sum_by f kept + sum_by f others + f x ≤ sum_by f whole
  parted-fit f =
      let sum : sum_by f xs + sum_by f (x ∷ rest) ≡ sum_by f whole = sym (sum_by-append f xs (x ∷ rest)) ∙ ap (sum_by f) split in
      omega (arith, sum, sum_by-cons f x rest, ap (sum_by f) parted.kept, ap (sum_by f) parted.others, flags-sum f flags xs (omega (arith, within)))

  -- it is parted too
  pub parted-more : {ks os : List X} (flag : Bool) (n : ℕ) → n ≡ length kept + length others → get_or flags n false ≡ flag → ks ≡ kept ++ cond flag (x ∷ []) [] → os ≡ others ++ cond (not flag) (x ∷ []) [] → IsParted flags (xs ++ x ∷ []) rest whole ks os
  parted-more {ks} {os} flag n here is_flag is_kept is_others =
      let there : flag ≡ get_or flags (length xs) false = sym is_flag ∙ ap (λ m. get_or flags m false) (here ∙ place) in
      record {
        kept = flags-more (λ b. b) flags xs x flag flag kept ks within there refl parted.kept is_kept;
        others = flags-more not flags xs x flag (not flag) others os within there refl parted.others is_others;
        all = append_assoc xs (x ∷ []) rest ∙ split;
      }
