-- Versions stay: a stamp of a later version, a new row, and a change of colour leave what is read in an earlier one.
use Rattle.std.proofs.Common.{◌≡◌, ℕ, zero, suc, ◌<◌, ◌≤◌, true, false, cond, ◌&&◌, nat_le, refl, sym, ap, ◌∙◌, Option, Some, None, inl, inr, arith}
use Rattle.std.proofs.lemmas.Bool.{and_right}
use Rattle.loc_pool.specs.{declared.Link.Link, declared.Turn.Turn}
use Rattle.loc_pool.specs.{declared.Turn.TheVariants.Left, declared.Turn.TheVariants.Right, declared.Colour.Colour}
use Rattle.loc_pool.specs.Maps.{Map, has, put}
use Rattle.loc_pool.specs.Rows.{Row, row, plain_child, same_turn, child_by, child_at, stamped, IsFree}
use Rattle.loc_rb.specs.Trees.{Tree, leaf, node, top, items}
use Rattle.loc_rb.specs.Balance.{depth}
use Rattle.loc_persist.specs.{Keeping.KeepsBefore, Reading.IsThere, Reading.between, Reading.reading}
use Rattle.loc_persist.proofs.Rows.{put-has, put-by}

not-yet : (i n : ℕ) → i < n → nat_le n i ≡ false
not-yet i n h = grind arith

plain-stamped : (n : ℕ) (turn t : Turn) (to : Option Link) (x : Row) → plain_child t (stamped n turn to x) ≡ plain_child t x
plain-stamped n turn Left to x = refl
plain-stamped n turn Right to x = refl

before-stamp : (i n : ℕ) (turn t : Turn) (to p : Option Link) → i < n → child_by i t p (Some (record { turn = turn; version = n; to = to })) ≡ p
before-stamp i n turn t to p h = ap (λ b. cond (same_turn turn t && b) to p) (not-yet i n h) ∙ ap (λ b. cond b to p) (and_right (same_turn turn t) false refl)

-- a stamp of version n does not count before n
pub child_at-stamped : (i n : ℕ) (turn t : Turn) (to : Option Link) (x : Row) → i < n → IsFree n turn x → child_at i t (stamped n turn to x) ≡ child_at i t x
child_at-stamped i n turn t to x h (inl e) =
    before-stamp i n turn t to (plain_child t (stamped n turn to x)) h ∙ plain-stamped n turn t to x ∙ ap (child_by i t (plain_child t x)) (sym e)
child_at-stamped i n turn t to x h (inr e) =
    before-stamp i n turn t to (plain_child t (stamped n turn to x)) h ∙ plain-stamped n turn t to x ∙ sym (before-stamp i n turn t e.0 (plain_child t x) h) ∙ ap (child_by i t (plain_child t x)) (sym e.1)

-- nothing has changed
pub keeps-refl : (n : ℕ) (rows : Map Row) → KeepsBefore n rows rows
keeps-refl n rows l h = (h, refl, λ i t b. refl)

-- one change after another
pub keeps-trans : (n : ℕ) (rows mid rows' : Map Row) → KeepsBefore n rows mid → KeepsBefore n mid rows' → KeepsBefore n rows rows'
keeps-trans n rows mid rows' a b l h = let p = a l h in let q = b l p.0 in (q.0, q.1 ∙ p.1, λ i t s. q.2 i t s ∙ p.2 i t s)

-- an exchanged row that reads alike before n
pub keeps-put : (n : ℕ) (rows : Map Row) (at : Link) (x : Row) → has rows at ≡ true → x.item ≡ (row rows at).item → ((i : ℕ) (t : Turn) → i < n → child_at i t x ≡ child_at i t (row rows at)) → KeepsBefore n rows (put rows at x)
keeps-put n rows at x h same_item same_child l k = (
  put-has rows at x l k,
  put-by (λ y. y.item ≡ (row rows l).item) rows at x l h k (λ s. same_item ∙ sym (ap (λ m. (row rows m).item) s)) (λ d. refl),
  (λ i t b. put-by (λ y. child_at i t y ≡ child_at i t (row rows l)) rows at x l h k (λ s. same_child i t b ∙ sym (ap (λ m. child_at i t (row rows m)) s)) (λ d. refl)),
)

-- colours play no part in it
pub child-colour : (i : ℕ) (t : Turn) (x : Row) (k : Colour) → child_at i t (record x { colour = k }) ≡ child_at i t x
child-colour i Left x k = refl
child-colour i Right x k = refl

-- **what stands in a version before n stands there still**
pub there-keeps : (i n : ℕ) (rows rows' : Map Row) → i < n → KeepsBefore n rows rows' → (t : Tree) → IsThere i rows t → IsThere i rows' t
there-keeps i n rows rows' b k leaf r = tt
there-keeps i n rows rows' b k (node l a x c d) r =
    let p = k l r.0 in
    (p.0, p.1 ∙ r.1, p.2 i Left b ∙ r.2, p.2 i Right b ∙ r.3, there-keeps i n rows rows' b k a r.4, there-keeps i n rows rows' b k d r.5)

-- what stands there is read
pub reading-there : (d i : ℕ) (rows : Map Row) (t : Tree) → depth t ≤ d → IsThere i rows t → reading d i rows (top t) ≡ Some (items t)
unfolding reading
reading-there zero i rows leaf h r = refl
reading-there zero i rows (node l a x c b) h r = let z : ⊥ = omega (arith, h) in absurd z
reading-there (suc d) i rows leaf h r = refl
reading-there (suc d) i rows (node l a x c b) h r =
    ap (λ z. cond z (between (reading d i rows (child_at i Left (row rows l))) (row rows l).item (reading d i rows (child_at i Right (row rows l)))) None) r.0
    ∙ (λ j. between (reading d i rows (r.2 j)) (r.1 j) (reading d i rows (r.3 j)))
    ∙ (λ j. between (reading-there d i rows a (omega (arith, h)) r.4 j) x (reading-there d i rows b (omega (arith, h)) r.5 j))
