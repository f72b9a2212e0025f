-- How the count of the extras in use goes.
use Rattle.std.proofs.Common.{◌≡◌, ℕ, ◌+◌, ◌≤◌, Bool, true, false, cond, ◌&&◌, ◌||◌, not, List, [], ◌∷◌, ◌++◌, length, length-append, refl, ap, ◌∙◌, None, arith}
use Rattle.loc_pool.specs.{declared.Link.Link, Same.same, Rows.Row, Rows.row}
use Rattle.loc_pool.specs.Maps.{Map, has, value_or, put}
use Rattle.loc_pool.proofs.{Same.same-eq, Same.same-refl, Found.length-put}
use Rattle.loc_persist.specs.{Present.is_among, Use.is_used, Use.in_use}

at-most-one : (b : Bool) → cond b 1 0 ≤ 1
at-most-one b = grind arith

-- a new node has no extra
in_use-append : (R : List Link) (cs : Map Row) (l : Link) (x : Row) → x.extra ≡ None → in_use R (cs ++ (l, x) ∷ []) ≡ in_use R cs
unfolding in_use
in_use-append R [] l x e = ap (λ o. cond (is_used o && not (is_among R l)) 1 0 + 0) e ∙ omega arith
in_use-append R (c ∷ cs) l x e = ap (λ n. cond (is_used c.1.extra && not (is_among R c.0)) 1 0 + n) (in_use-append R cs l x e)

-- an exchanged row counts for at most one
in_use-put : (R : List Link) (cs : Map Row) (l : Link) (x : Row) → in_use R (put cs l x) ≤ in_use R cs + 1
unfolding in_use put
in_use-put R [] l x = omega arith
in_use-put R (c ∷ cs) l x = elim (same c.0 l) as (λ b. in_use R (cond b ((c.0, x) ∷ cs) (c ∷ put cs l x)) ≤ in_use R (c ∷ cs) + 1) [
  | true ↦ let o = at-most-one (is_used x.extra && not (is_among R c.0)) in omega (arith, o)
  | false ↦ let q = in_use-put R cs l x in omega (arith, q)
]

fewer-one : (u a b : Bool) → cond (u && not (a || b)) 1 0 ≤ cond (u && not b) 1 0
fewer-one u a b = grind arith

fewer : (R : List Link) (cs : Map Row) (l : Link) → in_use (l ∷ R) cs ≤ in_use R cs
unfolding in_use is_among
fewer R [] l = omega arith
fewer R (c ∷ cs) l = let w = fewer-one (is_used c.1.extra) (same l c.0) (is_among R c.0) in let q = fewer R cs l in omega (arith, w, q)

-- the copy of a node whose extra is in use takes one away
in_use-copied : (R : List Link) (cs : Map Row) (l : Link) → has cs l ≡ true → is_used (row cs l).extra ≡ true → is_among R l ≡ false → in_use (l ∷ R) cs + 1 ≤ in_use R cs
unfolding in_use is_among has value_or
in_use-copied R [] l h u n = cc
in_use-copied R (c ∷ cs) l h u n = (elim (same c.0 l) as (λ b. same c.0 l ≡ b → (b || has cs l) ≡ true → is_used (cond b c.1 (row cs l)).extra ≡ true → in_use (l ∷ R) (c ∷ cs) + 1 ≤ in_use R (c ∷ cs)) [
  | true ↦ λ s h u.
      let q = fewer R cs l in
      let gone : ◌≡◌ {A = ℕ} (cond (is_used c.1.extra && not (same l c.0 || is_among R c.0)) 1 0) 0 = (λ i. cond (u i && not (same l (same-eq c.0 l s i) || is_among R (same-eq c.0 l s i))) 1 0) ∙ ap (λ b. cond (true && not (b || is_among R l)) 1 0) (same-refl l) in
      let was : ◌≡◌ {A = ℕ} (cond (is_used c.1.extra && not (is_among R c.0)) 1 0) 1 = (λ i. cond (u i && not (is_among R (same-eq c.0 l s i))) 1 0) ∙ ap (λ b. cond (true && not b) 1 0) n in
      omega (arith, q, gone, was)
  | false ↦ λ s h u. let q = in_use-copied R cs l h u n in let w = fewer-one (is_used c.1.extra) (same l c.0) (is_among R c.0) in omega (arith, q, w)
]) refl h u

-- the nodes and the extras in use, added up: a new node adds one
pub sum-made : (R : List Link) (cs : Map Row) (l : Link) (x : Row) → x.extra ≡ None → length (cs ++ (l, x) ∷ []) + in_use R (cs ++ (l, x) ∷ []) ≡ length cs + in_use R cs + 1
sum-made R cs l x e = let a = in_use-append R cs l x e in let b = length-append cs ((l, x) ∷ []) in omega (arith, a, b)

-- an exchanged row adds one at most
pub sum-put : (R : List Link) (cs : Map Row) (l : Link) (x : Row) → length (put cs l x) + in_use R (put cs l x) ≤ length cs + in_use R cs + 1
sum-put R cs l x = let a = in_use-put R cs l x in let b = length-put cs l x in omega (arith, a, b)

-- a copy adds nothing
pub sum-copied : (R : List Link) (cs : Map Row) (l r : Link) (x : Row) → x.extra ≡ None → has cs l ≡ true → is_used (row cs l).extra ≡ true → is_among R l ≡ false → length (cs ++ (r, x) ∷ []) + in_use (l ∷ R) (cs ++ (r, x) ∷ []) ≤ length cs + in_use R cs
sum-copied R cs l r x e h u n = let a = in_use-copied R cs l h u n in let b = in_use-append (l ∷ R) cs r x e in let c = length-append cs ((r, x) ∷ []) in omega (arith, a, b, c)

same-put : (R : List Link) (cs : Map Row) (l : Link) (x : Row) → has cs l ≡ true → x.extra ≡ (row cs l).extra → in_use R (put cs l x) ≡ in_use R cs
unfolding in_use put has value_or
same-put R [] l x h e = refl
same-put R (c ∷ cs) l x h e = (elim (same c.0 l) as (λ b. (b || has cs l) ≡ true → x.extra ≡ (cond b c.1 (row cs l)).extra → in_use R (cond b ((c.0, x) ∷ cs) (c ∷ put cs l x)) ≡ in_use R (c ∷ cs)) [
  | true ↦ λ h e. ap (λ o. cond (is_used o && not (is_among R c.0)) 1 0 + in_use R cs) e
  | false ↦ λ h e. ap (λ n. cond (is_used c.1.extra && not (is_among R c.0)) 1 0 + n) (same-put R cs l x h e)
]) h e

-- a row with the same extra adds nothing
pub sum-same : (R : List Link) (cs : Map Row) (l : Link) (x : Row) → has cs l ≡ true → x.extra ≡ (row cs l).extra → length (put cs l x) + in_use R (put cs l x) ≡ length cs + in_use R cs
sum-same R cs l x h e = let a = same-put R cs l x h e in let b = length-put cs l x in omega (arith, a, b)
