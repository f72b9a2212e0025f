-- Whether a row follows the one before it, as the code tells it.
use Rattle.std.proofs.Common.{◌≡◌, ℕ, Bool, true, ◌&&◌, List, [], ◌∷◌, ◌++◌, refl, sym, ◌∙◌, ap, arith}
use Rattle.std.specs.Prelude.{Option, Some, None, nat_lt, slice_get, option_map, map, length, ◌-◌}
use Rattle.std.specs.{List.last_or, Ordering.MatchOrdering, Ordering.is_lt, Ordering.nat_cmp}
use Rattle.std.specs.declared.cmp.Ordering.{Ordering}
use Rattle.std.specs.declared.cmp.Ordering.TheVariants.{Less, Equal, Greater}
use Rattle.std.specs.{Cmp.both_ways, Cmp.Lexicographic.slice_cmp}
use Rattle.std.proofs.lemmas.Bool.{and_parts, and_from, false_from_ne_true, ltb-true, lt-ltb}
use Rattle.loc_laws_index.proofs.RightRows.{Chain, chain-rising, rising-chain}
use Rattle.loc_spec_plane.specs.{Covers.list_before, Lists.is_rising}
use Rattle.loc_cover.proofs.Lexicographic.{lists_ranked, lists_by_before}
use Rattle.loc_spec_index.specs.IndexFile.{follows}

module _ (x : ℕ) where
  pushed : (o : Option ℕ) (xs : List ℕ) → Chain nat_lt o xs → follows nat_lt (last_or o xs) x ≡ true → Chain nat_lt o (xs ++ x ∷ [])
  pushed o [] c f = (f, tt)
  pushed o (y ∷ ys) c f = (c.0, pushed (Some y) ys c.1 f)

  popped : (o : Option ℕ) (xs : List ℕ) → Chain nat_lt o (xs ++ x ∷ []) → Chain nat_lt o xs × (follows nat_lt (last_or o xs) x ≡ true)
  popped o [] c = (tt, c.0)
  popped o (y ∷ ys) c = let r = popped (Some y) ys c.1 in ((c.0, r.0), r.1)

  less-trans : (a b c : ℕ) → nat_lt a b ≡ true → nat_lt b c ≡ true → nat_lt a c ≡ true
  less-trans a b c h k = let l = ltb-true a b h in let m = ltb-true b c k in lt-ltb a c (omega (arith, l, m))

  -- a rising list with one member more behind its last
  rising-push : (xs : List ℕ) → is_rising nat_lt (xs ++ x ∷ []) ≡ (is_rising nat_lt xs && follows nat_lt (last_or None xs) x)
  rising-push xs = both_ways _ _
      (λ h. (let p = popped None xs (rising-chain nat_lt (xs ++ x ∷ []) h) in and_from _ _ (chain-rising nat_lt less-trans None xs p.0) p.1))
      (λ h. (let p = and_parts (is_rising nat_lt xs) _ h in chain-rising nat_lt less-trans None (xs ++ x ∷ []) (pushed None xs (rising-chain nat_lt xs p.0) p.1)))

  -- the same in the words of a loop
  pub rising-more : (xs ys : List ℕ) (last : Option ℕ) (was now : Bool) → last_or None xs ≡ last → was ≡ is_rising nat_lt xs → now ≡ (was && follows nat_lt last x) → ys ≡ xs ++ x ∷ [] → now ≡ is_rising nat_lt ys
  rising-more xs ys last was now l w n e =
      n ∙ (ap (λ b. b && follows nat_lt last x) w ∙ (ap (λ o. is_rising nat_lt xs && follows nat_lt o x) (sym l) ∙ (sym (rising-push xs) ∙ ap (is_rising nat_lt) (sym e))))

pub list-test : (xs ys : List ℕ) → is_lt (slice_cmp nat_cmp xs ys) ≡ list_before xs ys
list-test xs ys = by (slice_cmp nat_cmp xs ys) (lists_ranked xs ys)
  where
    by : (o : Ordering) → MatchOrdering o (list_before xs ys ≡ true) (xs ≡ ys) (list_before ys xs ≡ true) → is_lt o ≡ list_before xs ys
    by Less h = sym h
    by Equal h = sym (false_from_ne_true (list_before xs ys) (λ e. lists_by_before.asym xs ys e (ap (λ zs. list_before zs xs) (sym h) ∙ (ap (list_before xs) h ∙ e))))
    by Greater h = sym (false_from_ne_true (list_before xs ys) (λ e. lists_by_before.asym xs ys e h))

pub last-get : {X : Type 0} (xs : List X) → slice_get xs (length xs - 1) ≡ last_or None xs
last-get {X} [] = refl
last-get {X} (x ∷ xs) = let e : length (x ∷ xs) - 1 ≡ length xs = omega arith in ap (slice_get (x ∷ xs)) e ∙ go x xs
  where
    go : (x : X) (xs : List X) → slice_get (x ∷ xs) (length xs) ≡ last_or (Some x) xs
    go x [] = refl
    go x (y ∷ ys) = go y ys

pub last-map : {X Y : Type 0} (f : X → Y) (o : Option X) (xs : List X) → last_or (option_map f o) (map f xs) ≡ option_map f (last_or o xs)
last-map f o [] = refl
last-map f o (x ∷ xs) = last-map f (Some x) xs

-- a list behind the last of others, which are read by f
pub follows-last : {X : Type 0} (f : X → List ℕ) (others : List X) (other : X) (list : List ℕ) (t : Bool) → Some other ≡ slice_get others (length others - 1) → t ≡ list_before (f other) list → t ≡ follows list_before (last_or None (map f others)) list
follows-last f others other list t is test = test ∙ ap (λ o. follows list_before o list) (ap (option_map f) (is ∙ last-get others) ∙ sym (last-map f None others))
