-- What a stamp and a copy do to the nodes in the newest version.
use Rattle.std.proofs.Common.{◌≡◌, ℕ, true, false, cond, not, ◌||◌, nat_le, List, [], ◌∷◌, ◌++◌, refl, sym, ap, ◌∙◌, Option, Some, None, inl, inr, arith}
use Rattle.std.specs.Prelude.{◌≢◌}
use Rattle.loc_pool.specs.{declared.Link.Link, declared.Turn.Turn}
use Rattle.loc_pool.specs.declared.Turn.TheVariants.{Left, Right}
use Rattle.loc_pool.specs.Maps.{Map, has, put, found}
use Rattle.loc_pool.specs.Rows as pool
use Rattle.loc_rb.specs.{Trees.Row, Trees.with_child, Nodes.live, Exchanges.InPlace, Exchanges.Copies}
use Rattle.loc_rb.proofs.OneChange.{not-same}
use Rattle.loc_pool.proofs.Found.{found-none, found-row, has-found, found-append-new, found-append-other, found-put-here, found-put-other}
use Rattle.loc_persist.specs.Present.{row_in, found_in, copy_of, is_among, nodes_at}
use Rattle.loc_persist.proofs.Rows.{is-found, not-new}

-- a row of the nodes is the pool's in that version
pub row-is : (n : ℕ) (rows : Map pool.Row) (l : Link) (x : Row) → found_in n (found rows l) ≡ Some x → (has rows l ≡ true) × (x ≡ row_in n (pool.row rows l))
row-is n rows l x e =
    let h = has-found rows l (λ z. (let w : None ≡ Some x = sym (ap (found_in n) z) ∙ e in cc)) in
    (h, (let w : Some x ≡ Some (row_in n (pool.row rows l)) = sym e ∙ ap (found_in n) (found-row rows l h) in cc))

-- where there is a row, it is found
pub row-of : (n : ℕ) (rows : Map pool.Row) (l : Link) → has rows l ≡ true → found_in n (found rows l) ≡ Some (row_in n (pool.row rows l))
row-of n rows l h = ap (found_in n) (found-row rows l h)

le-self : (n : ℕ) → nat_le n n ≡ true
le-self n = grind arith

-- the other side of a row with a fitting extra is the plain one
other-left : (n : ℕ) (x : pool.Row) → pool.IsFree n Right x → pool.child_at n Left x ≡ x.left
other-left n x (inl e) = ap (pool.child_by n Left x.left) e
other-left n x (inr e) = ap (pool.child_by n Left x.left) e.1

other-right : (n : ℕ) (x : pool.Row) → pool.IsFree n Left x → pool.child_at n Right x ≡ x.right
other-right n x (inl e) = ap (pool.child_by n Right x.right) e
other-right n x (inr e) = ap (pool.child_by n Right x.right) e.1

-- a stamp exchanges one child in the newest version
pub row_in-stamped : (n : ℕ) (turn : Turn) (to : Option Link) (x : pool.Row) → pool.IsFree n turn x → row_in n (pool.stamped n turn to x) ≡ with_child turn to (row_in n x)
row_in-stamped n Left to x free = λ i. record { item = x.item; left = cond (le-self n i) to x.left; right = sym (other-right n x free) i; colour = x.colour }
row_in-stamped n Right to x free = λ i. record { item = x.item; left = sym (other-left n x free) i; right = cond (le-self n i) to x.right; colour = x.colour }

-- a row that is, in the newest version, the old one with one child exchanged is a pointer written in place
pub put-in-place : (n : ℕ) (rows : Map pool.Row) (root : Option Link) (copied : List Link) (at : Link) (turn : Turn) (to : Option Link) (x : pool.Row) → has rows at ≡ true → row_in n x ≡ with_child turn to (row_in n (pool.row rows at))
    → InPlace (nodes_at n rows root copied) (nodes_at n (put rows at x) root copied) at turn to
put-in-place n rows root copied at turn to x h e = record {
  here = λ y q. ap (found_in n) (found-put-here rows at x (is-found rows at h)) ∙ ap Some (e ∙ ap (with_child turn to) (sym (row-is n rows at y q).1));
  others = λ l o. ap (found_in n) (found-put-other rows at l x o);
  current = λ l. refl;
  root = refl;
}

-- another link in front changes nothing
pub among-more : (R : List Link) (at l : Link) → l ≢ at → is_among (at ∷ R) l ≡ is_among R l
unfolding is_among
among-more R at l d = ap (λ b. b || is_among R l) (not-same at l (λ s. d (sym s)))

-- a link without a row was not copied
pub not-among : (rows : Map pool.Row) (R : List Link) (r : Link) → ((l : Link) → is_among R l ≡ true → has rows l ≡ true) → has rows r ≡ false → is_among R r ≡ false
not-among rows R r known z = (elim (is_among R r) as (λ b. is_among R r ≡ b → b ≡ false) [ true ↦ λ e. (let w : false ≡ true = sym z ∙ known r e in cc) | false ↦ λ e. refl ]) refl

-- a copy is the node with one child exchanged, and the node is current no longer
pub copy-copies : (n : ℕ) (rows : Map pool.Row) (root : Option Link) (R : List Link) (at r : Link) (turn : Turn) (to : Option Link) → has rows r ≡ false → has rows at ≡ true → ((l : Link) → is_among R l ≡ true → has rows l ≡ true)
    → Copies (nodes_at n rows root R) (nodes_at n (rows ++ (r, copy_of n turn to (pool.row rows at)) ∷ []) root (at ∷ R)) at r turn to
copy-copies n rows root R at r turn to z h known =
    let x = copy_of n turn to (pool.row rows at) in let none = found-none rows r z in
    let apart : r ≢ at = λ s. not-new rows r at z h (sym s) in
    record {
      fresh = ap (found_in n) none;
      here = λ y e. ap (found_in n) (found-append-new rows r x none) ∙ ap (λ w. Some (with_child turn to w)) (sym (row-is n rows at y e).1);
      new = ap not (among-more R at r apart ∙ not-among rows R r known z);
      others = λ l o. ap (found_in n) (found-append-other rows r l x o);
      current = λ l o e. ap not (among-more R at l o) ∙ e;
      root = refl;
    }

-- a current link has a row, and was not copied
pub live-is : (n : ℕ) (rows : Map pool.Row) (root : Option Link) (R : List Link) (l : Link) (x : Row) → live (nodes_at n rows root R) l ≡ Some x → (has rows l ≡ true) × (x ≡ row_in n (pool.row rows l)) × (is_among R l ≡ false)
live-is n rows root R l x e =
    let p = (elim (is_among R l) as (λ b. cond (not b) (found_in n (found rows l)) None ≡ Some x → (found_in n (found rows l) ≡ Some x) × (b ≡ false)) [ true ↦ λ q. cc | false ↦ λ q. (q, refl) ]) e in
    let r = row-is n rows l x p.0 in (r.0, r.1, p.1)
