-- What is found in rows where one is added or exchanged.
use Rattle.std.proofs.Common.{◌≡◌, true, false, cond, ◌||◌, [], ◌∷◌, ◌++◌, refl, sym, ap, ◌∙◌, Option, Some, None, length, arith}
use Rattle.std.specs.Prelude.{◌≢◌}
use Rattle.loc_pool.specs.{declared.Link.Link, declared.Turn.Turn}
use Rattle.loc_pool.specs.{declared.Turn.TheVariants.Left, declared.Turn.TheVariants.Right, Same.same}
use Rattle.loc_pool.specs.Maps.{Map, has, value_or, found, put}
use Rattle.loc_pool.specs.Rows.{Row, row, with_child}
use Rattle.loc_pool.proofs.Same.{same-refl, same-eq, not-same}

-- what is found is the row, where there is one
found-is : (rows : Map Row) (l : Link) → found rows l ≡ cond (has rows l) (Some (row rows l)) None
unfolding found has value_or
found-is [] l = refl
found-is (c ∷ cs) l = elim (same c.0 l) as (λ b. cond b (Some c.1) (found cs l) ≡ cond (b || has cs l) (Some (cond b c.1 (row cs l))) None) [ true ↦ refl | false ↦ found-is cs l ]

pub found-row : (rows : Map Row) (l : Link) → has rows l ≡ true → found rows l ≡ Some (row rows l)
found-row rows l h = found-is rows l ∙ ap (λ b. cond b (Some (row rows l)) None) h

pub found-none : (rows : Map Row) (l : Link) → has rows l ≡ false → found rows l ≡ None
found-none rows l h = found-is rows l ∙ ap (λ b. cond b (Some (row rows l)) None) h

-- where something is found, there is a row
pub has-found : (rows : Map Row) (l : Link) → found rows l ≢ None → has rows l ≡ true
has-found rows l h = (elim (has rows l) as (λ b. has rows l ≡ b → has rows l ≡ true) [ true ↦ λ e. e | false ↦ λ e. absurd (h (found-none rows l e)) ]) refl

pub found-append-new : (rows : Map Row) (r : Link) (x : Row) → found rows r ≡ None → found (rows ++ (r, x) ∷ []) r ≡ Some x
unfolding found
found-append-new [] r x h = ap (λ b. cond b (Some x) None) (same-refl r)
found-append-new (c ∷ cs) r x h = (elim (same c.0 r) as (λ b. cond b (Some c.1) (found cs r) ≡ None → cond b (Some c.1) (found (cs ++ (r, x) ∷ []) r) ≡ Some x) [ true ↦ λ e. cc | false ↦ λ e. found-append-new cs r x e ]) h

pub found-append-other : (rows : Map Row) (r l : Link) (x : Row) → l ≢ r → found (rows ++ (r, x) ∷ []) l ≡ found rows l
unfolding found
found-append-other [] r l x d = ap (λ b. cond b (Some x) None) (not-same r l (λ s. d (sym s)))
found-append-other (c ∷ cs) r l x d = ap (λ z. cond (same c.0 l) (Some c.1) z) (found-append-other cs r l x d)

pub found-put-here : (rows : Map Row) (l : Link) (x : Row) → found rows l ≢ None → found (put rows l x) l ≡ Some x
unfolding found put
found-put-here [] l x h = absurd (h refl)
found-put-here (c ∷ cs) l x h = (elim (same c.0 l) as (λ b. same c.0 l ≡ b → (cond b (Some c.1) (found cs l) ≢ None) → found (cond b ((c.0, x) ∷ cs) (c ∷ put cs l x)) l ≡ Some x) [
  | true ↦ λ e k. ap (λ b. cond b (Some x) (found cs l)) e
  | false ↦ λ e k. ap (λ b. cond b (Some c.1) (found (put cs l x) l)) e ∙ found-put-here cs l x k
]) refl h

pub found-put-other : (rows : Map Row) (l k : Link) (x : Row) → k ≢ l → found (put rows l x) k ≡ found rows k
unfolding found put
found-put-other [] l k x d = refl
found-put-other (c ∷ cs) l k x d = (elim (same c.0 l) as (λ b. same c.0 l ≡ b → found (cond b ((c.0, x) ∷ cs) (c ∷ put cs l x)) k ≡ cond (same c.0 k) (Some c.1) (found cs k)) [
  | true ↦ λ e. let z = not-same c.0 k (λ s. d (sym s ∙ same-eq c.0 l e)) in ap (λ b. cond b (Some x) (found cs k)) z ∙ sym (ap (λ b. cond b (Some c.1) (found cs k)) z)
  | false ↦ λ e. ap (λ z. cond (same c.0 k) (Some c.1) z) (found-put-other cs l k x d)
]) refl

pub length-put : (rows : Map Row) (l : Link) (x : Row) → length (put rows l x) ≡ length rows
unfolding put
length-put [] l x = refl
length-put (c ∷ cs) l x = elim (same c.0 l) as (λ b. length (cond b ((c.0, x) ∷ cs) (c ∷ put cs l x)) ≡ length (c ∷ cs)) [ true ↦ refl | false ↦ let e = length-put cs l x in omega (arith, e) ]

some-found : (rows : Map Row) (l : Link) (x : Row) → found rows l ≡ Some x → found rows l ≢ None
some-found rows l x e z = let w : None ≡ Some x = sym z ∙ e in cc

pub some-row : (x y : Row) → Some x ≡ Some y → x ≡ y
some-row x y e = cc

pub row-append : (rows : Map Row) (r at : Link) (x : Row) → has rows r ≡ false → has rows at ≡ true → (has (rows ++ (r, x) ∷ []) at ≡ true) × (row (rows ++ (r, x) ∷ []) at ≡ row rows at)
row-append rows r at x z h =
    let M = rows ++ (r, x) ∷ [] in
    let f : found M at ≡ Some (row rows at) = found-append-other rows r at x (λ s. (let w : false ≡ true = sym z ∙ ap (has rows) (sym s) ∙ h in cc)) ∙ found-row rows at h in
    let k = has-found M at (some-found M at (row rows at) f) in
    (k, some-row (row M at) (row rows at) (sym (found-row M at k) ∙ f))

-- a plain child does not touch the extra
pub extra-child : (turn : Turn) (to : Option Link) (x : Row) → (with_child turn to x).extra ≡ x.extra
extra-child Left to x = refl
extra-child Right to x = refl
