-- A pointer that is written into a node, in place or as a stamp.
use Rattle.std.proofs.Common.{◌≡◌, ℕ, true, false, take, refl, sym, ap, ◌∙◌, Option, Some, None, inl, inr, arith}
use Rattle.loc_pool.specs.{declared.Link.Link, declared.Extra.Extra, declared.Turn.Turn}
use Rattle.loc_pool.specs.declared.Turn.TheVariants.{Left, Right}
use Rattle.loc_pool.specs.Maps.{Map, has, put}
use Rattle.loc_pool.specs.Rows as pool
use Rattle.loc_rb.specs.Trees.{with_child}
use Rattle.loc_pool.proofs.Found.{extra-child, length-put}
use Rattle.loc_persist.specs.Present.{row_in, IsClosed, IsFreshAfter}
use Rattle.loc_persist.specs.Written.{HasRoom, IsWritten}
use Rattle.loc_persist.proofs.{Keeping.child_at-stamped, Use.sum-put, Use.sum-same}
use Rattle.loc_persist.proofs.{NewestRows.put-in-place, NewestRows.row_in-stamped, Prefix.prefix-put, Prefix.fresh-put}
use Rattle.loc_persist.proofs.Exchanges.{present-put, stamped-closed}

-- where there is no extra, the plain child is the one of each version
row_in-child : (n : ℕ) (turn : Turn) (to : Option Link) (x : pool.Row) → x.extra ≡ None → row_in n (pool.with_child turn to x) ≡ with_child turn to (row_in n x)
row_in-child n Left to x e = λ i. record { item = x.item; left = pool.child_by n Left to (e i); right = pool.child_by n Right x.right x.extra; colour = x.colour }
row_in-child n Right to x e = λ i. record { item = x.item; left = pool.child_by n Left x.left x.extra; right = pool.child_by n Right to (e i); colour = x.colour }

child-closed : (rows : Map pool.Row) (turn : Turn) (to : Option Link) (x : pool.Row) → IsClosed rows x → ((l : Link) → to ≡ Some l → has rows l ≡ true) → IsClosed rows (pool.with_child turn to x)
child-closed rows Left to x c h = record { left = h; right = c.right; extra = c.extra }
child-closed rows Right to x c h = record { left = c.left; right = h; extra = c.extra }

-- in place, where the node comes after those of the sealed versions
pub written-child : (v n : ℕ) (rows : Map pool.Row) (at : Link) (turn : Turn) (to : Option Link) → has rows at ≡ true → ((l : Link) → to ≡ Some l → has rows l ≡ true) → IsFreshAfter n rows → has (take n rows) at ≡ false
    → IsWritten v n rows (put rows at (pool.with_child turn to (pool.row rows at))) at turn to
written-child v n rows at turn to h t f z =
    let r = pool.row rows at in let x = pool.with_child turn to r in let none = f.fresh at h z in let same_extra = extra-child turn to r in
    record {
      in_place = λ root copied. put-in-place v rows root copied at turn to x h (row_in-child v turn to r none);
      keeps = prefix-put v n rows at x (λ a. (let w : false ≡ true = sym z ∙ a in cc));
      present = λ root copied p. present-put v rows root copied at x p h (λ e q. (let w : None ≡ Some e = sym none ∙ sym same_extra ∙ q in cc)) (child-closed rows turn to r (p.closed at h) t);
      fresh = fresh-put n rows at x f h (λ a. same_extra ∙ none);
      paid = λ copied. (let s = sum-same copied rows at x h same_extra in omega (arith, s));
      as_many = length-put rows at x;
    }

-- as a stamp, where the extra is free
pub written-stamp : (v n : ℕ) (rows : Map pool.Row) (at : Link) (turn : Turn) (to : Option Link) → has rows at ≡ true → ((l : Link) → to ≡ Some l → has rows l ≡ true) → IsFreshAfter n rows → has (take n rows) at ≡ true → pool.IsFree v turn (pool.row rows at)
    → IsWritten v n rows (put rows at (pool.stamped v turn to (pool.row rows at))) at turn to
written-stamp v n rows at turn to h t f a free =
    let r = pool.row rows at in let x = pool.stamped v turn to r in let stamp : Extra = record { turn = turn; version = v; to = to } in
    record {
      in_place = λ root copied. put-in-place v rows root copied at turn to x h (row_in-stamped v turn to r free);
      keeps = prefix-put v n rows at x (λ _. (refl, λ i s b. child_at-stamped i v turn s to r b free));
      present = λ root copied p. present-put v rows root copied at x p h (λ e q. (let w : stamp ≡ e = cc in let d : ◌≡◌ {A = ℕ} v e.version = ap (λ y. y.version) w in omega (arith, d))) (stamped-closed v rows turn to r (p.closed at h) t);
      fresh = fresh-put n rows at x f h (λ z. (let w : false ≡ true = sym z ∙ a in cc));
      paid = λ copied. sum-put copied rows at x;
      as_many = length-put rows at x;
    }

-- a node of the sealed versions that has room has it in its extra
pub free-of : (v n : ℕ) (rows : Map pool.Row) (at : Link) (turn : Turn) → HasRoom v n rows at turn → has (take n rows) at ≡ true → pool.IsFree v turn (pool.row rows at)
free-of v n rows at turn (inl z) a = let w : false ≡ true = sym z ∙ a in cc
free-of v n rows at turn (inr f) a = f
