-- Where a link stands in a list of names, and which side is which.
use Rattle.std.proofs.Common.{◌≡◌, ℕ, zero, suc, true, false, cond, ◌||◌, ◌-◌, List, [], ◌∷◌, refl, sym, ap, ◌∙◌, subst, Option, Some, None, arith}
use Rattle.std.specs.Prelude.{◌≢◌, slice_get, unwrap_or}
use Rattle.std.specs.List.{AllByRecursion}
use Rattle.loc_pool.specs.{declared.Link.Link, declared.Turn.Turn}
use Rattle.loc_pool.specs.{declared.Turn.TheVariants.Left, declared.Turn.TheVariants.Right, Same.same}
use Rattle.loc_pool.specs.Rows.{same_turn, AreNames, IsPlace, no_link}
use Rattle.loc_pool.specs.Maps.{Map, has, links}
use Rattle.loc_pool.proofs.Same.{same-eq, not-same}
use Rattle.loc_persist.specs.Roots.{root_by}

-- the test of two sides is their equality
pub same-turn : (s t : Turn) → same_turn s t ≡ true → s ≡ t
same-turn Left Left e = refl
same-turn Left Right e = cc
same-turn Right Left e = cc
same-turn Right Right e = refl

all-get : (P : Link → Type 0) (ls : List Link) (l : Link) (i : ℕ) → AllByRecursion P ls → slice_get ls i ≡ Some l → P l
all-get P [] l i a e = cc
all-get P (k ∷ ks) l zero a e = subst P (let h : k ≡ l = cc in h) a.0
all-get P (k ∷ ks) l (suc i) a e = all-get P ks l i a.1 e

get-once : (ls : List Link) (l : Link) (i j : ℕ) → AreNames ls → slice_get ls i ≡ Some l → slice_get ls j ≡ Some l → i ≡ j
get-once [] l i j n e f = cc
get-once (k ∷ ks) l zero zero n e f = refl
get-once (k ∷ ks) l zero (suc j) n e f = absurd (all-get (λ m. m ≢ k) ks l j n.1 f (let h : k ≡ l = cc in sym h))
get-once (k ∷ ks) l (suc i) zero n e f = absurd (all-get (λ m. m ≢ k) ks l i n.1 e (let h : k ≡ l = cc in sym h))
get-once (k ∷ ks) l (suc i) (suc j) n e f = ap suc (get-once ks l i j n.2 e f)

-- a link has one place
pub place-once : (ls : List Link) (l : Link) (i j : ℕ) → AreNames ls → IsPlace ls l i → IsPlace ls l j → i ≡ j
place-once ls l i j n p q = let e = get-once ls l (i - 1) (j - 1) n p.1 q.1 in let a = p.0 in let b = q.0 in omega (arith, e, a, b)

-- where none of the links is the default one, a link with a row is not
pub named-not-default : {A : Type 0} → (rows : Map A) (l : Link) → AreNames (links rows) → has rows l ≡ true → l ≢ no_link
unfolding has links
named-not-default [] l n h = cc
named-not-default (c ∷ cs) l n h = (elim (same c.0 l) as (λ b. same c.0 l ≡ b → (b || has cs l) ≡ true → l ≢ no_link) [
  | true ↦ λ e k z. n.0 (same-eq c.0 l e ∙ z)
  | false ↦ λ e k. named-not-default cs l n.2 k
]) refl h

-- the root that a link stands for
pub root-of : (to : Option Link) (l : Link) → to ≢ Some no_link → l ≡ unwrap_or to no_link → root_by l ≡ to
unfolding same
root-of None l d e = ap root_by e
root-of (Some k) l d e = ap root_by e ∙ ap (λ b. cond b None (Some k)) (not-same k no_link (λ z. d (ap Some z)))
