-- The first rows: those of the nodes that there were when a version was sealed.
use Rattle.std.proofs.Common.{◌≡◌, ℕ, zero, suc, ◌-◌, ◌<◌, ◌≤◌, true, false, cond, ◌||◌, List, [], ◌∷◌, ◌++◌, length, length-append, take, refl, sym, ap, ◌∙◌, subst, Option, Some, None, arith}
use Rattle.std.proofs.{Math.Seq.take-length, lemmas.List.take-append-le}
use Rattle.std.specs.Prelude.{slice_get}
use Rattle.loc_pool.specs.{declared.Link.Link, declared.Turn.Turn}
use Rattle.loc_pool.specs.{declared.Turn.TheVariants.Left, declared.Turn.TheVariants.Right, Same.same}
use Rattle.loc_pool.proofs.{Same.same-refl, Same.same-eq, Maps.has-put, Found.length-put}
use Rattle.loc_pool.specs.Maps.{Map, has, value_or, put, links}
use Rattle.loc_pool.specs.Rows.{Row, row, child_at, AreNames, IsPlace}
use Rattle.loc_rb.specs.Trees.{Tree, leaf, node}
use Rattle.loc_persist.specs.{Keeping.KeepsBefore, Present.IsFreshAfter, Reading.IsThere}
use Rattle.loc_persist.specs.Stored.{IsVersion, AreVersions}
use Rattle.loc_persist.proofs.{Keeping.keeps-refl, Keeping.keeps-put, Places.place-once, Rows.put-by, Rows.append-by}

-- an exchanged row is exchanged among the first rows too
pub take-put : (n : ℕ) (rows : Map Row) (at : Link) (x : Row) → take n (put rows at x) ≡ put (take n rows) at x
unfolding put
take-put zero rows at x = refl
take-put (suc n) [] at x = refl
take-put (suc n) (c ∷ cs) at x = elim (same c.0 at) as (λ b. take (suc n) (cond b ((c.0, x) ∷ cs) (c ∷ put cs at x)) ≡ cond b ((c.0, x) ∷ take n cs) (c ∷ put (take n cs) at x)) [
  | true ↦ refl
  | false ↦ ap (λ z. c ∷ z) (take-put n cs at x)
]

put-none : (rows : Map Row) (at : Link) (x : Row) → has rows at ≡ false → put rows at x ≡ rows
unfolding put has
put-none [] at x z = refl
put-none (c ∷ cs) at x z = (elim (same c.0 at) as (λ b. (b || has cs at) ≡ false → cond b ((c.0, x) ∷ cs) (c ∷ put cs at x) ≡ c ∷ cs) [
  | true ↦ λ e. cc
  | false ↦ λ e. ap (λ w. c ∷ w) (put-none cs at x e)
]) z

-- the first rows are rows
pub has-take : (n : ℕ) (rows : Map Row) (l : Link) → has (take n rows) l ≡ true → (has rows l ≡ true) × (row (take n rows) l ≡ row rows l)
unfolding has value_or
has-take zero rows l h = cc
has-take (suc n) [] l h = cc
has-take (suc n) (c ∷ cs) l h = (elim (same c.0 l) as (λ b. (b || has (take n cs) l) ≡ true → ((b || has cs l) ≡ true) × (cond b c.1 (row (take n cs) l) ≡ cond b c.1 (row cs l))) [
  | true ↦ λ e. (refl, refl)
  | false ↦ λ e. has-take n cs l e
]) h

-- a link whose place is among the first has one of the first rows
get-take : (rows : Map Row) (l : Link) (i n : ℕ) → slice_get (links rows) i ≡ Some l → i < n → has (take n rows) l ≡ true
unfolding has links
get-take [] l i n e h = cc
get-take (c ∷ cs) l i zero e h = let z : ⊥ = omega (arith, h) in absurd z
get-take (c ∷ cs) l zero (suc n) e h = let w : c.0 ≡ l = cc in ap (λ b. b || has (take n cs) l) (ap (λ m. same m l) w ∙ same-refl l)
get-take (c ∷ cs) l (suc i) (suc n) e h = let q = get-take cs l i n e (omega (arith, h)) in (elim (same c.0 l) as (λ b. (b || has (take n cs) l) ≡ true) [ true ↦ refl | false ↦ q ])

-- and the other way
place-take : (rows : Map Row) (l : Link) (n : ℕ) → has (take n rows) l ≡ true → (i : ℕ) × (i < n) × (slice_get (links rows) i ≡ Some l)
unfolding has links
place-take rows l zero h = cc
place-take [] l (suc n) h = cc
place-take (c ∷ cs) l (suc n) h = (elim (same c.0 l) as (λ b. same c.0 l ≡ b → (b || has (take n cs) l) ≡ true → (i : ℕ) × (i < suc n) × (slice_get (c.0 ∷ links cs) i ≡ Some l)) [
  | true ↦ λ s e. (0, omega arith, ap Some (same-eq c.0 l s))
  | false ↦ λ s e. let q = place-take cs l n e in let b = q.1 in (suc q.0, omega (arith, b), q.2)
]) refl h

-- a node is one of the first where its number says so
pub is-first : (rows : Map Row) (l : Link) (k n : ℕ) → IsPlace (links rows) l k → k ≤ n → has (take n rows) l ≡ true
is-first rows l k n p h = let a = p.0 in get-take rows l (k - 1) n p.1 (omega (arith, a, h))

-- and only there
pub is-later : (rows : Map Row) (l : Link) (k n : ℕ) → AreNames (links rows) → IsPlace (links rows) l k → n < k → has (take n rows) l ≡ false
is-later rows l k n names p h = (elim (has (take n rows) l) as (λ b. has (take n rows) l ≡ b → b ≡ false) [
  | true ↦ λ e. let q = place-take rows l n e in let b = q.1 in let m : IsPlace (links rows) l (suc q.0) = (omega arith, (let z : q.0 ≡ suc q.0 - 1 = omega arith in subst (λ (i : ℕ). slice_get (links rows) i ≡ Some l) z q.2)) in
      let s = place-once (links rows) l k (suc q.0) names p m in let z : ⊥ = omega (arith, s, b, h) in absurd z
  | false ↦ λ e. refl
]) refl

-- an exchanged row keeps the versions before, where it is none of the first or reads alike
pub prefix-put : (v n : ℕ) (rows : Map Row) (at : Link) (x : Row) → (has (take n rows) at ≡ true → (x.item ≡ (row rows at).item) × ((i : ℕ) (t : Turn) → i < v → child_at i t x ≡ child_at i t (row rows at))) → KeepsBefore v (take n rows) (take n (put rows at x))
prefix-put v n rows at x k =
    subst (λ (M : Map Row). KeepsBefore v (take n rows) M) (sym (take-put n rows at x)) ((elim (has (take n rows) at) as (λ b. has (take n rows) at ≡ b → KeepsBefore v (take n rows) (put (take n rows) at x)) [
      | true ↦ λ h. let q = has-take n rows at h in let d = k h in keeps-put v (take n rows) at x h (d.0 ∙ sym (ap (λ (y : Row). y.item) q.1)) (λ i t b. d.1 i t b ∙ sym (ap (child_at i t) q.1))
      | false ↦ λ h. subst (λ (M : Map Row). KeepsBefore v (take n rows) M) (sym (put-none (take n rows) at x h)) (keeps-refl v (take n rows))
    ]) refl)

-- so does a new row
pub prefix-append : (v n : ℕ) (rows : Map Row) (r : Link) (x : Row) → n ≤ length rows → KeepsBefore v (take n rows) (take n (rows ++ (r, x) ∷ []))
prefix-append v n rows r x h = subst (λ (M : Map Row). KeepsBefore v (take n rows) M) (sym (take-append-le n rows ((r, x) ∷ []) h)) (keeps-refl v (take n rows))

-- the nodes after the first stay without an extra where a row is exchanged
pub fresh-put : (n : ℕ) (rows : Map Row) (at : Link) (x : Row) → IsFreshAfter n rows → has rows at ≡ true → (has (take n rows) at ≡ false → x.extra ≡ None) → IsFreshAfter n (put rows at x)
fresh-put n rows at x f h k =
    let l = length-put rows at x in let w = f.within in
    record {
      within = omega (arith, l, w);
      fresh = λ m a b. (let a' = sym (has-put rows at x m) ∙ a in let b' = sym (has-put (take n rows) at x m) ∙ sym (ap (λ M. has M m) (take-put n rows at x)) ∙ b in
          put-by (λ y. y.extra ≡ None) rows at x m h a' (λ s. k (sym (ap (has (take n rows)) s) ∙ b')) (λ d. f.fresh m a' b'));
    }

-- and where one comes
pub fresh-append : (n : ℕ) (rows : Map Row) (r : Link) (x : Row) → IsFreshAfter n rows → has rows r ≡ false → x.extra ≡ None → IsFreshAfter n (rows ++ (r, x) ∷ [])
fresh-append n rows r x f z e =
    let l = length-append rows ((r, x) ∷ []) in let w = f.within in
    record {
      within = omega (arith, l, w);
      fresh = λ m a b. append-by (λ y. y.extra ≡ None) rows r x m z a e (λ k. f.fresh m k (sym (ap (λ N. has N m) (take-append-le n rows ((r, x) ∷ []) w)) ∙ b));
    }

-- no node comes after all
pub fresh-all : (rows : Map Row) → IsFreshAfter (length rows) rows
fresh-all rows = record { within = omega arith; fresh = λ m a b. (let w : true ≡ false = sym a ∙ ap (λ M. has M m) (sym (take-length rows)) ∙ b in cc) }

-- a tree that stands in the first rows stands in all
pub there-whole : (i n : ℕ) (rows : Map Row) (t : Tree) → IsThere i (take n rows) t → IsThere i rows t
there-whole i n rows leaf r = tt
there-whole i n rows (node l a x c b) r =
    let q = has-take n rows l r.0 in
    (q.0, ap (λ (y : Row). y.item) (sym q.1) ∙ r.1, ap (child_at i Left) (sym q.1) ∙ r.2, ap (child_at i Right) (sym q.1) ∙ r.3, there-whole i n rows a r.4, there-whole i n rows b r.5)

-- what stands in the first rows stands in all
abbrev pub version-whole : (i n : ℕ) (rows : Map Row) (root : Option Link) → IsVersion i (take n rows) root → IsVersion i rows root
version-whole i n rows root v = record { tree = v.tree; there = there-whole i n rows v.tree v.there; here = v.here; shallow = v.shallow; deep = v.deep }

-- and so do all sealed versions
pub versions-whole : (n : ℕ) (rows : Map Row) (roots : List (Option Link)) → AreVersions (take n rows) roots → AreVersions rows roots
versions-whole n rows roots v i root e = version-whole i n rows root (v i root e)
