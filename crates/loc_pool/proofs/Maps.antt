-- What the words on maps say of one another.
use Rattle.std.proofs.Common.{ℕ, zero, suc, Some, length, ◌≡◌, true, false, cond, ◌||◌, [], ◌∷◌, ◌++◌, refl, ap, ◌∙◌}
use Rattle.std.proofs.lemmas.Bool.{or_parts, or_right}
use Rattle.std.specs.Prelude.{slice_get}
use Rattle.loc_pool.specs.{declared.Link.Link, Same.same}
use Rattle.loc_pool.specs.Maps.{Map, has, value_or, put, links}
use Rattle.loc_pool.proofs.Same.{same-refl}

pub length-links : {A : Type 0} → (cs : Map A) → length (links cs) ≡ length cs
unfolding links
length-links [] = refl
length-links (c ∷ cs) = ap suc (length-links cs)

pub has-put : {A : Type 0} → (cs : Map A) (l : Link) (x : A) (m : Link) → has (put cs l x) m ≡ has cs m
unfolding has put
has-put [] l x m = refl
has-put (c ∷ cs) l x m = elim (same c.0 l) as (λ b. has (cond b ((c.0, x) ∷ cs) (c ∷ put cs l x)) m ≡ (same c.0 m || has cs m)) [
  | true ↦ refl
  | false ↦ ap (λ b. same c.0 m || b) (has-put cs l x m)
]

pub has-append : {A : Type 0} → (cs : Map A) (l : Link) (x : A) (m : Link) → has (cs ++ (l, x) ∷ []) m ≡ (has cs m || same l m)
unfolding has
has-append [] l x m = elim (same l m) as (λ b. (b || false) ≡ b) [ true ↦ refl | false ↦ refl ]
has-append (c ∷ cs) l x m = elim (same c.0 m) as (λ b. (b || has (cs ++ (l, x) ∷ []) m) ≡ ((b || has cs m) || same l m)) [
  | true ↦ refl
  | false ↦ has-append cs l x m
]

-- the value of a link that had none is the one added
pub value_or-append : {A : Type 0} → (d : A) (cs : Map A) (l : Link) (x : A) → has cs l ≡ false → value_or d (cs ++ (l, x) ∷ []) l ≡ x
unfolding has value_or
value_or-append d [] l x e = ap (λ b. cond b x d) (same-refl l)
value_or-append d (c ∷ cs) l x e =
    let t = or_parts (same c.0 l) (has cs l) e in
    ap (λ b. cond b c.1 (value_or d (cs ++ (l, x) ∷ []) l)) t.0 ∙ value_or-append d cs l x t.1

pub has-last : {A : Type 0} → (cs : Map A) (l : Link) (x : A) → has (cs ++ (l, x) ∷ []) l ≡ true
has-last cs l x = has-append cs l x l ∙ or_right (has cs l) (same l l) (same-refl l)

-- a link that stands at some place has a value
pub has-place : {A : Type 0} → (cs : Map A) (l : Link) (i : ℕ) → slice_get (links cs) i ≡ Some l → has cs l ≡ true
unfolding has links
has-place [] l i e = cc
has-place (c ∷ cs) l zero e = let h : c.0 ≡ l = cc in ap (λ b. b || has cs l) (ap (λ m. same m l) h ∙ same-refl l)
has-place (c ∷ cs) l (suc i) e = or_right (same c.0 l) (has cs l) (has-place cs l i e)
