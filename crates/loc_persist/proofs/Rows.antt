-- The row of a link after one row was exchanged or came.
use Rattle.std.proofs.Common.{◌≡◌, Bool, true, false, ◌||◌, [], ◌∷◌, ◌++◌, refl, sym, ap, ◌∙◌, subst, Some, None}
use Rattle.std.specs.Prelude.{◌≢◌}
use Rattle.loc_pool.specs.{declared.Link.Link, Rows.Row, Rows.row, Rows.blank}
use Rattle.loc_pool.specs.Maps.{Map, has, put, found}
use Rattle.loc_pool.proofs.Maps.{has-put, has-append, value_or-append}
use Rattle.loc_rb.proofs.OneChange.{not-same, by-link}
use Rattle.loc_pool.proofs.Found.{some-row, found-row, found-put-here, found-put-other, row-append}

-- where there is a row, something is found
pub is-found : (rows : Map Row) (l : Link) → has rows l ≡ true → found rows l ≢ None
is-found rows l h z = let w : None ≡ Some (row rows l) = sym z ∙ found-row rows l h in cc

-- an exchanged row takes none away
pub put-has : (rows : Map Row) (at : Link) (x : Row) (l : Link) → has rows l ≡ true → has (put rows at x) l ≡ true
put-has rows at x l h = has-put rows at x l ∙ h

-- the row that was exchanged
pub row-put-here : (rows : Map Row) (at : Link) (x : Row) → has rows at ≡ true → row (put rows at x) at ≡ x
row-put-here rows at x h = some-row (row (put rows at x) at) x (sym (found-row (put rows at x) at (put-has rows at x at h)) ∙ found-put-here rows at x (is-found rows at h))

-- another one
pub row-put-other : (rows : Map Row) (at : Link) (x : Row) (l : Link) → has rows l ≡ true → l ≢ at → row (put rows at x) l ≡ row rows l
row-put-other rows at x l h d = some-row (row (put rows at x) l) (row rows l) (sym (found-row (put rows at x) l (put-has rows at x l h)) ∙ found-put-other rows at l x d ∙ found-row rows l h)

-- a link without a row is none that has one
pub not-new : (rows : Map Row) (r l : Link) → has rows r ≡ false → has rows l ≡ true → l ≢ r
not-new rows r l z h s = let w : false ≡ true = sym z ∙ ap (has rows) (sym s) ∙ h in cc

or-false : (b : Bool) → b ≡ (b || false)
or-false true = refl
or-false false = refl

-- a link that has a row once another came had it before
pub was-there : (rows : Map Row) (r l : Link) (x : Row) → has (rows ++ (r, x) ∷ []) l ≡ true → l ≢ r → has rows l ≡ true
was-there rows r l x h d = or-false (has rows l) ∙ sym (ap (λ b. has rows l || b) (not-same r l (λ s. d (sym s)))) ∙ sym (has-append rows r x l) ∙ h

-- the row of a link once one was exchanged, by whether it is that one
pub put-by : (P : Row → Type 0) (rows : Map Row) (at : Link) (x : Row) (l : Link) → has rows at ≡ true → has rows l ≡ true → (l ≡ at → P x) → (l ≢ at → P (row rows l)) → P (row (put rows at x) l)
put-by P rows at x l h k here other =
    by-link (P (row (put rows at x) l)) l at (λ s. subst P (sym (ap (row (put rows at x)) s ∙ row-put-here rows at x h)) (here s)) (λ d. subst P (sym (row-put-other rows at x l k d)) (other d))

-- and once one came
pub append-by : (P : Row → Type 0) (rows : Map Row) (r : Link) (x : Row) (l : Link) → has rows r ≡ false → has (rows ++ (r, x) ∷ []) l ≡ true → P x → (has rows l ≡ true → P (row rows l)) → P (row (rows ++ (r, x) ∷ []) l)
append-by P rows r x l z k here other =
    let M = rows ++ (r, x) ∷ [] in
    by-link (P (row M l)) l r (λ s. subst P (sym (ap (row M) s ∙ value_or-append blank rows r x z)) here) (λ d. let b = was-there rows r l x k d in subst P (sym (row-append rows r l x z b).1) (other b))
