-- Members by flags: what a test of all members, an order and a map of them say of those with a flag.
use Rattle.std.proofs.Common.{◌≡◌, ℕ, suc, ◌+◌, ◌<◌, ◌≤◌, Bool, true, false, ◌||◌, cond, List, [], ◌∷◌, ◌++◌, length, map, filter, get_or, take, refl, sym, ◌∙◌, ap, arith}
use Rattle.std.specs.List.{list_all, list_any, zip}
use Rattle.std.proofs.{lemmas.Bool.and_from, lemmas.Bool.and_parts, lemmas.List.length-take-le, lemmas.List.take_more}
use Rattle.loc_spec_plane.specs.Lists.{is_rising}
use Rattle.loc_rings.specs.Flags.{flagged, unflagged}
use Rattle.loc_rings.proofs.Flags.{chosen, flags-more}

-- a map of the members
pub chosen-map : {X Y : Type 0} (f : X → Y) (test : Bool → Bool) (flags : List Bool) (xs : List X) → chosen test flags (map f xs) ≡ map f (chosen test flags xs)
chosen-map f test [] xs = refl
chosen-map f test (flag ∷ flags) [] = refl
chosen-map {X} {Y} f test (flag ∷ flags) (x ∷ xs) = by_case (test flag) (chosen-map f test flags xs)
  where
    by_case : (b : Bool) → chosen test flags (map f xs) ≡ map f (chosen test flags xs)
        → map (λ (pair : Bool × Y). pair.1) (cond b ((flag, f x) ∷ filter (λ (pair : Bool × Y). test pair.0) (zip flags (map f xs))) (filter (λ (pair : Bool × Y). test pair.0) (zip flags (map f xs))))
        ≡ map f (map (λ (pair : Bool × X). pair.1) (cond b ((flag, x) ∷ filter (λ (pair : Bool × X). test pair.0) (zip flags xs)) (filter (λ (pair : Bool × X). test pair.0) (zip flags xs))))
    by_case true same = ap (λ ys. f x ∷ ys) same
    by_case false same = same

-- what all members pass
pub chosen-all : {X : Type 0} (p : X → Bool) (test : Bool → Bool) (flags : List Bool) (xs : List X) → list_all p xs ≡ true → list_all p (chosen test flags xs) ≡ true
chosen-all p test [] xs all = refl
chosen-all p test (flag ∷ flags) [] all = refl
chosen-all {X} p test (flag ∷ flags) (x ∷ xs) all = by_case (test flag) (and_parts (p x) (list_all p xs) all).0 (chosen-all p test flags xs (and_parts (p x) (list_all p xs) all).1)
  where
    by_case : (b : Bool) → p x ≡ true → list_all p (chosen test flags xs) ≡ true
        → list_all p (map (λ (pair : Bool × X). pair.1) (cond b ((flag, x) ∷ filter (λ (pair : Bool × X). test pair.0) (zip flags xs)) (filter (λ (pair : Bool × X). test pair.0) (zip flags xs)))) ≡ true
    by_case true here later = and_from (p x) (list_all p (chosen test flags xs)) here later
    by_case false here later = later

-- members in order
pub chosen-rising : {X : Type 0} (comes_before : X → X → Bool) (test : Bool → Bool) (flags : List Bool) (xs : List X) → is_rising comes_before xs ≡ true → is_rising comes_before (chosen test flags xs) ≡ true
chosen-rising comes_before test [] xs rises = refl
chosen-rising comes_before test (flag ∷ flags) [] rises = refl
chosen-rising {X} comes_before test (flag ∷ flags) (x ∷ xs) rises =
    let parts = and_parts (list_all (comes_before x) xs) (is_rising comes_before xs) rises in
    by_case (test flag) (chosen-all (comes_before x) test flags xs parts.0) (chosen-rising comes_before test flags xs parts.1)
  where
    by_case : (b : Bool) → list_all (comes_before x) (chosen test flags xs) ≡ true → is_rising comes_before (chosen test flags xs) ≡ true
        → is_rising comes_before (map (λ (pair : Bool × X). pair.1) (cond b ((flag, x) ∷ filter (λ (pair : Bool × X). test pair.0) (zip flags xs)) (filter (λ (pair : Bool × X). test pair.0) (zip flags xs)))) ≡ true
    by_case true here later = and_from (list_all (comes_before x) (chosen test flags xs)) (is_rising comes_before (chosen test flags xs)) here later
    by_case false here later = later

-- what one of all passes, one of those with a flag passes or one of the others
pub flags-any : {X : Type 0} (p : X → Bool) (flags : List Bool) (xs : List X) → length xs ≤ length flags → (list_any p (flagged flags xs) || list_any p (unflagged flags xs)) ≡ list_any p xs
flags-any p [] [] le = refl
flags-any p [] (x ∷ xs) le = absurd (omega arith)
flags-any p (flag ∷ flags) [] le = refl
flags-any p (true ∷ flags) (x ∷ xs) le = group (p x) (list_any p (flagged flags xs)) (list_any p (unflagged flags xs)) ∙ ap (λ b. p x || b) (flags-any p flags xs (omega arith))
  where
    group : (a b c : Bool) → ((a || b) || c) ≡ (a || (b || c))
    group true b c = refl
    group false b c = refl
flags-any p (false ∷ flags) (x ∷ xs) le = move (list_any p (flagged flags xs)) (p x) (list_any p (unflagged flags xs)) ∙ ap (λ b. p x || b) (flags-any p flags xs (omega arith))
  where
    move : (a b c : Bool) → (a || (b || c)) ≡ (b || (a || c))
    move true true c = refl
    move true false c = refl
    move false true c = refl
    move false false c = refl

-- one member more of a list, where its flag is known
pub chosen-take : {X : Type 0} (test : Bool → Bool) (flags : List Bool) (xs : List X) (k : ℕ) (x : X) (flag passes : Bool) (made more : List X) → k < length xs → length flags ≡ length xs → flag ≡ get_or flags k false → test flag ≡ passes
    → x ≡ get_or xs k x → made ≡ chosen test flags (take k xs) → more ≡ made ++ cond passes (x ∷ []) [] → more ≡ chosen test flags (take (k + 1) xs)
chosen-take test flags xs k x flag passes made more within as_many is_flag tested is_x is_made is_more =
    let count : length (take k xs) ≡ k = length-take-le k xs (omega arith) in
    flags-more test flags (take k xs) x flag passes made more (omega arith) (is_flag ∙ ap (λ n. get_or flags n false) (sym count)) tested is_made is_more
    ∙ ap (chosen test flags) (ap (λ y. take k xs ++ y ∷ []) is_x ∙ sym (take_more xs k x within))

-- lists of one length have as many members with a flag
pub chosen-length : {X Y : Type 0} (test : Bool → Bool) (flags : List Bool) (xs : List X) (ys : List Y) → length xs ≡ length ys → length (chosen test flags xs) ≡ length (chosen test flags ys)
chosen-length test [] xs ys same = refl
chosen-length test (flag ∷ flags) [] [] same = refl
chosen-length test (flag ∷ flags) [] (y ∷ ys) same = absurd (omega arith)
chosen-length test (flag ∷ flags) (x ∷ xs) [] same = absurd (omega arith)
chosen-length {X} {Y} test (flag ∷ flags) (x ∷ xs) (y ∷ ys) same = by_case (test flag) (chosen-length test flags xs ys (omega arith))
  where
    by_case : (b : Bool) → length (chosen test flags xs) ≡ length (chosen test flags ys)
        → length (map (λ (pair : Bool × X). pair.1) (cond b ((flag, x) ∷ filter (λ (pair : Bool × X). test pair.0) (zip flags xs)) (filter (λ (pair : Bool × X). test pair.0) (zip flags xs))))
        ≡ length (map (λ (pair : Bool × Y). pair.1) (cond b ((flag, y) ∷ filter (λ (pair : Bool × Y). test pair.0) (zip flags ys)) (filter (λ (pair : Bool × Y). test pair.0) (zip flags ys))))
    by_case true later = ap suc later
    by_case false later = later
