-- How a stamp ends a change, and a copy hands it on to the node above.
use Rattle.std.proofs.Common.{◌≡◌, ℕ, ◌+◌, ◌≤◌, true, false, ◌&&◌, cond, nat_le, List, [], ◌∷◌, ◌++◌, length, length-append, take, refl, sym, ap, ◌∙◌, subst, Option, Some, None}
use Rattle.std.specs.Prelude.{◌≢◌}
use Rattle.loc_pool.specs.{declared.Link.Link, declared.Extra.Extra, declared.Turn.Turn}
use Rattle.loc_pool.specs.declared.Turn.TheVariants.{Left, Right}
use Rattle.loc_pool.specs.Maps.{Map, has, put}
use Rattle.loc_pool.specs.Rows as pool
use Rattle.loc_pool.proofs.{Maps.has-put, Maps.has-last, Found.row-append}
use Rattle.loc_rb.specs.{Nodes.live, Nodes.CanChange, Exchanges.Exchanges}
use Rattle.loc_rb.proofs.OneChange.{by-link, some-link}
use Rattle.loc_rb.proofs.Exchanging.{leads-end, in-place, copied-top, can-go-up, copied-up}
use Rattle.loc_persist.specs.{Keeping.KeepsBefore, Use.is_used, Use.in_use, Written.IsWritten}
use Rattle.loc_persist.specs.Present.{copy_of, is_among, nodes_at, IsClosed, IsPresent, IsFreshAfter}
use Rattle.loc_persist.proofs.{Prefix.prefix-append, Prefix.fresh-append, Use.sum-copied}
use Rattle.loc_persist.proofs.Rows.{put-has, put-by, append-by}
use Rattle.loc_persist.proofs.NewestRows.{copy-copies, live-is, among-more}

-- with more rows the links still have rows
closed-more : (rows M : Map pool.Row) (x : pool.Row) → ((l : Link) → has rows l ≡ true → has M l ≡ true) → IsClosed rows x → IsClosed M x
closed-more rows M x k c = record { left = λ l a. k l (c.left l a); right = λ l a. k l (c.right l a); extra = λ e l a b. k l (c.extra e l a b) }

child-closed : (n : ℕ) (rows : Map pool.Row) (t : Turn) (p : Option Link) (o : Option Extra) → ((l : Link) → p ≡ Some l → has rows l ≡ true) → ((e : Extra) (l : Link) → o ≡ Some e → e.to ≡ Some l → has rows l ≡ true) → (l : Link) → pool.child_by n t p o ≡ Some l → has rows l ≡ true
child-closed n rows t p None a b l e = a l e
child-closed n rows t p (Some x) a b l e = (elim (pool.same_turn x.turn t && nat_le x.version n) as (λ z. cond z x.to p ≡ Some l → has rows l ≡ true) [ true ↦ λ q. b x l refl q | false ↦ λ q. a l q ]) e

-- the copy leads to links that have rows
pub copy-closed : (n : ℕ) (rows : Map pool.Row) (turn : Turn) (to : Option Link) (x : pool.Row) → IsClosed rows x → ((l : Link) → to ≡ Some l → has rows l ≡ true) → IsClosed rows (copy_of n turn to x)
copy-closed n rows Left to x c h = record { left = h; right = child-closed n rows Right x.right x.extra c.right c.extra; extra = λ e l a b. cc }
copy-closed n rows Right to x c h = record { left = child-closed n rows Left x.left x.extra c.left c.extra; right = h; extra = λ e l a b. cc }

-- so does a row with a stamp
pub stamped-closed : (n : ℕ) (rows : Map pool.Row) (turn : Turn) (to : Option Link) (x : pool.Row) → IsClosed rows x → ((l : Link) → to ≡ Some l → has rows l ≡ true) → IsClosed rows (pool.stamped n turn to x)
stamped-closed n rows turn to x c h = record { left = c.left; right = c.right; extra = λ e l a b. h l ((let w : (let x : Extra = record { turn = turn; version = n; to = to } in x) ≡ e = cc in ap (λ (z : Extra). z.to) w) ∙ b) }

-- an exchanged row with no later stamp
pub present-put : (n : ℕ) (rows : Map pool.Row) (root : Option Link) (R : List Link) (at : Link) (x : pool.Row) → IsPresent n rows root R → has rows at ≡ true → ((e : Extra) → x.extra ≡ Some e → e.version ≤ n) → IsClosed rows x → IsPresent n (put rows at x) root R
present-put n rows root R at x p h s c = record {
  stamps = λ l e k q. let b = sym (has-put rows at x l) ∙ k in put-by (λ y. y.extra ≡ Some e → e.version ≤ n) rows at x l h b (λ _. s e) (λ _. p.stamps l e b) q;
  closed = λ l k. let b = sym (has-put rows at x l) ∙ k in
      put-by (IsClosed (put rows at x)) rows at x l h b (λ _. closed-more rows (put rows at x) x (put-has rows at x) c) (λ _. closed-more rows (put rows at x) (pool.row rows l) (put-has rows at x) (p.closed l b));
  known = λ l a. put-has rows at x l (p.known l a);
  rooted = λ l a. put-has rows at x l (p.rooted l a);
}

-- a new row with no extra
pub present-made : (n : ℕ) (rows : Map pool.Row) (root : Option Link) (R : List Link) (r : Link) (x : pool.Row) → IsPresent n rows root R → has rows r ≡ false → x.extra ≡ None → IsClosed rows x → IsPresent n (rows ++ (r, x) ∷ []) root R
present-made n rows root R r x p z s c =
    let M = rows ++ (r, x) ∷ [] in let more : (l : Link) → has rows l ≡ true → has M l ≡ true = λ l h. (row-append rows r l x z h).0 in
    record {
      stamps = λ l e k q. append-by (λ y. y.extra ≡ Some e → e.version ≤ n) rows r x l z k (λ w. (let v : None ≡ Some e = sym s ∙ w in cc)) (λ b. p.stamps l e b) q;
      closed = λ l k. append-by (IsClosed M) rows r x l z k (closed-more rows M x more c) (λ b. closed-more rows M (pool.row rows l) more (p.closed l b));
      known = λ l a. more l (p.known l a);
      rooted = λ l a. more l (p.rooted l a);
    }

-- one more of those that have rows was copied
pub present-copied : (n : ℕ) (rows : Map pool.Row) (root : Option Link) (R : List Link) (at : Link) → IsPresent n rows root R → has rows at ≡ true → IsPresent n rows root (at ∷ R)
present-copied n rows root R at p h = record {
  stamps = p.stamps;
  closed = p.closed;
  known = λ l a. by-link (has rows l ≡ true) l at (λ s. ap (has rows) s ∙ h) (λ d. p.known l (sym (among-more R at l d) ∙ a));
  rooted = p.rooted;
}

-- another root
pub present-root : (n : ℕ) (rows : Map pool.Row) (root o : Option Link) (R : List Link) → IsPresent n rows root R → ((l : Link) → o ≡ Some l → has rows l ≡ true) → IsPresent n rows o R
present-root n rows root o R p h = record { stamps = p.stamps; closed = p.closed; known = p.known; rooted = h }

-- a node that may be changed has a row, and was not copied
pub at-row : (n : ℕ) (rows : Map pool.Row) (root : Option Link) (R : List Link) (es : List (Link × Turn)) (at : Link) (to : Option Link) → CanChange (nodes_at n rows root R) es at to → (has rows at ≡ true) × (is_among R at ≡ false)
at-row n rows root R es at to k = let x = leads-end (live (nodes_at n rows root R)) es at k.leads in let q = live-is n rows root R at x.0 x.1 in (q.0, q.2)

-- the link that is to be hung has a row
pub to-has : (n : ℕ) (rows : Map pool.Row) (root : Option Link) (R : List Link) (es : List (Link × Turn)) (at : Link) (to : Option Link) → CanChange (nodes_at n rows root R) es at to → (l : Link) → to ≡ Some l → has rows l ≡ true
to-has n rows root R es at to k l e = let x = k.to l e in (live-is n rows root R l x.0 x.1).0

-- a pointer that was written is the whole of a change
pub written-of : (n k : ℕ) (rows M : Map pool.Row) (root : Option Link) (R : List Link) (es : List (Link × Turn)) (at : Link) (turn : Turn) (to : Option Link) → CanChange (nodes_at n rows root R) es at to → IsWritten n k rows M at turn to
    → Exchanges (nodes_at n rows root R) (nodes_at n M root R) es es at at turn to
written-of n k rows M root R es at turn to c w = in-place (nodes_at n rows root R) (nodes_at n M root R) es at turn to (w.in_place root R) c

-- the rows after a copy
abbrev pub after_copy : ℕ → Map pool.Row → Link → Link → Turn → Option Link → Map pool.Row
after_copy n rows at r turn to = rows ++ (r, copy_of n turn to (pool.row rows at)) ∷ []

-- a copy of a node that hangs under no other
pub top-of : (n : ℕ) (rows M : Map pool.Row) (root o : Option Link) (R S : List Link) (at r : Link) (turn : Turn) (to : Option Link) → CanChange (nodes_at n rows root R) [] at to → ((l : Link) → is_among R l ≡ true → has rows l ≡ true) → has rows r ≡ false
    → M ≡ after_copy n rows at r turn to → S ≡ at ∷ R → (root ≡ Some at → o ≡ Some r) → (root ≢ Some at → o ≡ root) → Exchanges (nodes_at n rows root R) (nodes_at n M o S) [] [] at r turn to
top-of n rows M root o R S at r turn to k known z e f was not =
    subst (λ (q : Map pool.Row × List Link). Exchanges (nodes_at n rows root R) (nodes_at n q.0 o q.1) [] [] at r turn to) (λ i. (sym e i, sym f i))
    (copied-top (nodes_at n rows root R) (nodes_at n (after_copy n rows at r turn to) root (at ∷ R)) at r turn to o (copy-copies n rows root R at r turn to z (at-row n rows root R [] at to k).0 known) k was not)

-- after a copy the pointer above it may be changed
pub up-can : (n : ℕ) (rows M : Map pool.Row) (root : Option Link) (R S : List Link) (es : List (Link × Turn)) (e : Link × Turn) (at r : Link) (turn : Turn) (to : Option Link) → CanChange (nodes_at n rows root R) (es ++ e ∷ []) at to → ((l : Link) → is_among R l ≡ true → has rows l ≡ true)
    → has rows r ≡ false → M ≡ after_copy n rows at r turn to → S ≡ at ∷ R → CanChange (nodes_at n M root S) es e.0 (Some r)
up-can n rows M root R S es e at r turn to k known z m s =
    subst (λ (q : Map pool.Row × List Link). CanChange (nodes_at n q.0 root q.1) es e.0 (Some r)) (λ i. (sym m i, sym s i))
    (can-go-up (nodes_at n rows root R) (nodes_at n (after_copy n rows at r turn to) root (at ∷ R)) es e at r turn to (copy-copies n rows root R at r turn to z (at-row n rows root R (es ++ e ∷ []) at to k).0 known) k)

-- a copy, and then the change above it
pub up-of : (n : ℕ) (rows M P : Map pool.Row) (root root' : Option Link) (R S T : List Link) (es es' : List (Link × Turn)) (up up' : Link) (side : Turn) (at r : Link) (turn : Turn) (to : Option Link) → CanChange (nodes_at n rows root R) (es ++ (up, side) ∷ []) at to
    → ((l : Link) → is_among R l ≡ true → has rows l ≡ true) → has rows r ≡ false → M ≡ after_copy n rows at r turn to → S ≡ at ∷ R → Exchanges (nodes_at n M root S) (nodes_at n P root' T) es es' up up' side (Some r)
    → Exchanges (nodes_at n rows root R) (nodes_at n P root' T) (es ++ (up, side) ∷ []) (es' ++ (up', side) ∷ []) at r turn to
up-of n rows M P root root' R S T es es' up up' side at r turn to k known z m s x =
    copied-up (nodes_at n rows root R) (nodes_at n (after_copy n rows at r turn to) root (at ∷ R)) (nodes_at n P root' T) es es' up up' side at r turn to (copy-copies n rows root R at r turn to z (at-row n rows root R (es ++ (up, side) ∷ []) at to k).0 known) k
    (subst (λ (q : Map pool.Row × List Link). Exchanges (nodes_at n q.0 root q.1) (nodes_at n P root' T) es es' up up' side (Some r)) (λ i. (m i, s i)) x)

-- the rows and copied links after a copy are such that a change can go on
pub present-of : (n : ℕ) (rows M : Map pool.Row) (root : Option Link) (R S : List Link) (at r : Link) (turn : Turn) (to : Option Link) → IsPresent n rows root R → ((l : Link) → to ≡ Some l → has rows l ≡ true) → has rows at ≡ true → has rows r ≡ false
    → M ≡ after_copy n rows at r turn to → S ≡ at ∷ R → IsPresent n M root S
present-of n rows M root R S at r turn to p t h z m s =
    let x = copy_of n turn to (pool.row rows at) in
    subst (λ (q : Map pool.Row × List Link). IsPresent n q.0 root q.1) (λ i. (sym m i, sym s i))
    (present-copied n (rows ++ (r, x) ∷ []) root R at (present-made n rows root R r x p z refl (copy-closed n rows turn to (pool.row rows at) (p.closed at h) t)) (row-append rows r at x z h).0)

-- a copy costs nothing: an extra in use pays for it
pub paid-of : (n : ℕ) (rows M : Map pool.Row) (R S : List Link) (at r : Link) (turn : Turn) (to : Option Link) → has rows at ≡ true → is_used (pool.row rows at).extra ≡ true → is_among R at ≡ false
    → M ≡ after_copy n rows at r turn to → S ≡ at ∷ R → length M + in_use S M ≤ length rows + in_use R rows
paid-of n rows M R S at r turn to h u a m s =
    subst (λ (q : Map pool.Row × List Link). length q.0 + in_use q.1 q.0 ≤ length rows + in_use R rows) (λ i. (sym m i, sym s i)) (sum-copied R rows at r (copy_of n turn to (pool.row rows at)) refl h u a)

-- and every version before stays
pub keeps-of : (n k : ℕ) (rows M : Map pool.Row) (at r : Link) (turn : Turn) (to : Option Link) → IsFreshAfter k rows → M ≡ after_copy n rows at r turn to → KeepsBefore n (take k rows) (take k M)
keeps-of n k rows M at r turn to f m = subst (λ (q : Map pool.Row). KeepsBefore n (take k rows) (take k q)) (sym m) (prefix-append n k rows r (copy_of n turn to (pool.row rows at)) f.within)

-- and the nodes after the first have no extra
pub fresh-of : (n k : ℕ) (rows M : Map pool.Row) (at r : Link) (turn : Turn) (to : Option Link) → IsFreshAfter k rows → has rows r ≡ false → M ≡ after_copy n rows at r turn to → IsFreshAfter k M
fresh-of n k rows M at r turn to f z m = subst (λ (q : Map pool.Row). IsFreshAfter k q) (sym m) (fresh-append k rows r (copy_of n turn to (pool.row rows at)) f z refl)

-- so do the rows that there were
pub has-of : (n : ℕ) (rows M : Map pool.Row) (at r l : Link) (turn : Turn) (to : Option Link) → has rows r ≡ false → M ≡ after_copy n rows at r turn to → has rows l ≡ true → has M l ≡ true
has-of n rows M at r l turn to z m h = ap (λ q. has q l) m ∙ (row-append rows r l (copy_of n turn to (pool.row rows at)) z h).0

-- the root is this link or not
by-root : (root : Option Link) (at : Link) (P : Type 0) → (root ≡ Some at → P) → (root ≢ Some at → P) → P
by-root None at P f g = g (λ q. cc)
by-root (Some l) at P f g = by-link P l at (λ s. f (ap Some s)) (λ d. g (λ q. d (some-link l at q)))

-- the new root after a copy has a row
pub rooted-of : (n : ℕ) (rows M : Map pool.Row) (root o : Option Link) (R S : List Link) (at r : Link) (turn : Turn) (to : Option Link) → IsPresent n rows root R → ((l : Link) → to ≡ Some l → has rows l ≡ true) → has rows at ≡ true → has rows r ≡ false
    → M ≡ after_copy n rows at r turn to → S ≡ at ∷ R → (root ≡ Some at → o ≡ Some r) → (root ≢ Some at → o ≡ root) → IsPresent n M o S
rooted-of n rows M root o R S at r turn to p t h z m s was not =
    let x = copy_of n turn to (pool.row rows at) in
    present-root n M root o S (present-of n rows M root R S at r turn to p t h z m s) (λ l e. by-root root at (has M l ≡ true)
    (λ q. ap (has M) (sym (some-link r l (sym (was q) ∙ e))) ∙ ap (λ k. has k r) m ∙ has-last rows r x)
    (λ d. has-of n rows M at r l turn to z m (p.rooted l (sym (not d) ∙ e))))

-- one row more
pub length-copy : (n : ℕ) (rows : Map pool.Row) (at r : Link) (turn : Turn) (to : Option Link) → length (after_copy n rows at r turn to) ≡ length rows + 1
length-copy n rows at r turn to = length-append rows ((r, copy_of n turn to (pool.row rows at)) ∷ [])
