-- What the calls of versions do to their meaning, and what holds of it.
use Rattle.std.proofs.Common.{◌≡◌, ℕ, zero, suc, ◌+◌, ◌*◌, ◌^◌, ◌<◌, ◌≤◌, max, Bool, true, false, cond, not, ◌&&◌, List, [], ◌∷◌, ◌++◌, map, length, length-append, refl, sym, ap, ◌∙◌, subst, Option, Some, None, ◌⊎◌, inl, inr, arith}
use Rattle.std.specs.Prelude.{slice_get}
use Rattle.std.proofs.lemmas.Bool.{le-leb}
use Rattle.loc_pool.specs.{declared.Link.Link, declared.Extra.Extra, declared.Turn.Turn}
use Rattle.loc_pool.specs.declared.Turn.TheVariants.{Left, Right}
use Rattle.loc_pool.specs.Maps.{Map, has, found}
use Rattle.loc_pool.specs.Rows as pool
use Rattle.loc_rb.specs.{Trees.Row, Trees.leaf, Nodes.IsOld, Nodes.KeepsItems}
use Rattle.loc_rb.specs.{Places.Holds, Places.LeadsToGap, Places.LeadsTo, Balance.depth}
use Rattle.loc_persist.specs.{Present.found_in, Present.row_in, Present.IsPresent, Reading.reading, Reading.list_in}
use Rattle.loc_rb.proofs.Trees.{count-leaf}
use Rattle.loc_persist.specs.Stored.{Stored, kept_from, nodes_of, IsVersion, IsStored}
use Rattle.loc_persist.specs.Meaning.{VersionsMeaning, fresh, present_nodes, Reads, IsMeaning, Inserts, Removes, Seals, lists_of, list_of, meaning, IsKept}
use Rattle.loc_persist.proofs.{NewestRows.live-is, NewestRows.row-of, NewestRows.row-is, Prefix.versions-whole}
use Rattle.loc_persist.proofs.SameTree.{Wider, holds-wider, gap-narrow, node-narrow}
use Rattle.loc_persist.proofs.Stores.{list-is, holds-version, holds-list, after_seal}

-- in the meaning all nodes count as current
pub wider : (s : Stored) (i r p : ℕ) (b : Bool) → Wider (nodes_of s) (present_nodes (meaning s i r p b))
wider s i r p b = record {
  live = λ l x e. (let q = live-is (length s.roots) s.rows s.root s.copied l x e in row-of (length s.roots) s.rows l q.0 ∙ ap Some (sym q.1));
  root = refl;
}

-- the roots of what is kept
pub kept-roots : (i : ℕ) (rows : Map pool.Row) (roots : List (Option Link)) → map (λ k. k.1) (kept_from i rows roots) ≡ roots
unfolding kept_from
kept-roots i rows [] = refl
kept-roots i rows (root ∷ roots) = ap (λ z. root ∷ z) (kept-roots (i + 1) rows roots)

-- the list of a version among those that are kept
get-list : (i : ℕ) (rows : Map pool.Row) (roots : List (Option Link)) (k : ℕ) (root : Option Link) → slice_get roots k ≡ Some root → slice_get (map (λ q. q.0) (kept_from i rows roots)) k ≡ Some (list_in (i + k) rows root)
unfolding kept_from
get-list i rows [] k root e = cc
get-list i rows (r ∷ roots) zero root e = let h : r ≡ root = cc in let z : i ≡ i + 0 = omega arith in λ j. Some (list_in (z j) rows (h j))
get-list i rows (r ∷ roots) (suc k) root e = get-list (i + 1) rows roots k root e ∙ (let z : i + 1 + k ≡ i + suc k = omega arith in ap (λ n. Some (list_in n rows root)) z)

lists-length : (i : ℕ) (rows : Map pool.Row) (roots : List (Option Link)) → length (map (λ q. q.0) (kept_from i rows roots)) ≡ length roots
unfolding kept_from
lists-length i rows [] = refl
lists-length i rows (r ∷ roots) = let q = lists-length (i + 1) rows roots in omega (arith, q)

lists-snoc : (i : ℕ) (rows : Map pool.Row) (roots : List (Option Link)) (root : Option Link) → map (λ q. q.0) (kept_from i rows (roots ++ root ∷ [])) ≡ map (λ q. q.0) (kept_from i rows roots) ++ list_in (i + length roots) rows root ∷ []
unfolding kept_from
lists-snoc i rows [] root = let z : i ≡ i + 0 = omega arith in λ j. list_in (z j) rows root ∷ []
lists-snoc i rows (r ∷ roots) root = ap (λ z. list_in i rows r ∷ z) (lists-snoc (i + 1) rows roots root ∙ (let z : i + 1 + length roots ≡ i + length (r ∷ roots) = omega arith in ap (λ n. map (λ q. q.0) (kept_from (i + 1) rows roots) ++ list_in n rows root ∷ []) z))

reads-of : (i : ℕ) (rows : Map pool.Row) (root : Option Link) → (v : IsVersion i rows root) → Reads i rows root (list_in i rows root)
reads-of i rows root v = let e = list-is i rows root v in record { tree = v.tree; there = v.there; here = v.here; whole = sym e; shallow = subst (λ (L : List ℕ). 2 ^ depth v.tree ≤ (length L + 1) * (length L + 1)) (sym e) v.shallow; deep = v.deep }

-- what holds of the meaning
pub facts-of : (s : Stored) (spare i r p : ℕ) (b : Bool) → IsStored s spare → IsKept s i r p b → IsMeaning (meaning s i r p b)
facts-of s spare i r p b h k =
    let a = h.paid in let c = h.made in let d = k.calls in let m = k.made in let zero_at : (v : ℕ) → 0 + v ≡ v = λ v. omega arith in
    record {
      sealed = λ v root e. record { list = list_in v s.rows root; sealed = get-list 0 s.rows s.roots v root e ∙ ap (λ n. Some (list_in n s.rows root)) (zero_at v); reads = reads-of v s.rows root (versions-whole s.sealed_nodes s.rows s.roots h.versions v root e) };
      as_many = lists-length 0 s.rows s.roots;
      present = holds-wider (nodes_of s) (present_nodes (meaning s i r p b)) (list_of s) (wider s i r p b) k.present;
      newest = reads-of (length s.roots) s.rows s.root (holds-version s (list_of s) k.present k.small);
      items = k.items;
      stamps = h.present.stamps;
      settled = k.settled;
      small = k.small;
      counted = k.counted;
      least = omega (arith, c, m);
      most = omega (arith, a, d);
    }

-- at the start there is nothing
pub kept-none : IsKept (record { rows = []; roots = []; root = None; sealed_nodes = 0; copied = []; made = 0; changed = 0; room = 0 }) 0 0 0 false
unfolding reading has kept_from
kept-none = record {
  present = record { tree = leaf; fits = tt; apart = (λ l. let z = count-leaf l in omega (arith, z)); root = refl; balanced = (tt, (0, refl)); list = refl };
  small = omega arith;
  counted = omega arith;
  few = omega arith;
  calls = omega arith;
  made = omega arith;
  items = λ l a. cc;
  settled = λ q l e a w. cc;
}

-- and that is what fresh versions mean
pub meaning-none : meaning (record { rows = []; roots = []; root = None; sealed_nodes = 0; copied = []; made = 0; changed = 0; room = 0 }) 0 0 0 false ≡ fresh
unfolding reading kept_from
meaning-none = refl

-- room plays no part
pub kept-room : (s : Stored) (i r p : ℕ) (b : Bool) (room : ℕ) → IsKept s i r p b → IsKept (record s { room = room }) i r p b
kept-room s i r p b room k = record {
  present = record { tree = k.present.tree; fits = k.present.fits; apart = k.present.apart; root = k.present.root; balanced = k.present.balanced; list = k.present.list };
  small = k.small;
  counted = k.counted;
  few = k.few;
  calls = k.calls;
  made = k.made;
  items = k.items;
  settled = k.settled;
}

-- the present list, where it is known
holds-kept : (t : Stored) (list : List ℕ) → Holds (nodes_of t) list → length list ≤ 2 ^ 21 → Holds (nodes_of t) (list_of t)
holds-kept t list h b = subst (λ (L : List ℕ). Holds (nodes_of t) L) (sym (holds-list t list h b)) h

length-with : (P F : List ℕ) (x : ℕ) → length (P ++ x ∷ F) ≡ length (P ++ F) + 1
length-with P F x = let a = length-append P (x ∷ F) in let b = length-append P F in omega (arith, a, b)

-- a row has an item that some row had before
old-below : (s : Stored) (i r p q : ℕ) (b : Bool) (x : ℕ) → IsKept s i r p b → p ≤ q → IsOld (nodes_of s) x → x < q
old-below s i r p q b x k l o =
    let w = row-is (length s.roots) s.rows o.0 o.1 o.2 in let e = ap (λ (y : Row). y.item) w.1 in let f = o.3 in let g = k.items o.0 w.0 in omega (arith, e, f, g, l)

-- after an insertion
pub kept-insert : (s t : Stored) (i r p : ℕ) (b : Bool) (P F : List ℕ) (item : ℕ) → IsKept s i r p b → P ++ F ≡ list_of s → length (list_of s) < 2 ^ 21 → i < 2 ^ 26 → Holds (nodes_of t) (P ++ item ∷ F) → t.made ≡ s.made + 1 → t.changed ≤ s.changed + 7
    → ((l : Link) (x : Row) → (nodes_of t).rows l ≡ Some x → (x.item ≡ item) ⊎ IsOld (nodes_of s) x.item) → IsKept t (i + 1) r (max p (item + 1)) true
kept-insert s t i r p b P F item k e small few h made changed old =
    let n = length-with P F item in let m = ap length e in let c = k.calls in let d = k.counted in let o = k.made in
    let bound : length (P ++ item ∷ F) ≤ 2 ^ 21 = omega (arith, n, m, small) in
    let f = ap length (holds-list t (P ++ item ∷ F) h bound) in
    record {
      present = holds-kept t (P ++ item ∷ F) h bound;
      small = omega (arith, f, bound);
      counted = omega (arith, f, n, m, d);
      few = omega (arith, few);
      calls = omega (arith, made, changed, c);
      made = omega (arith, made, o);
      items = λ l a. elim (old l _ (row-of (length t.roots) t.rows l a)) as (λ _. (pool.row t.rows l).item < max p (item + 1)) [
        | inl q ↦ omega (arith, q)
        | inr o ↦ old-below s i r p (max p (item + 1)) b (pool.row t.rows l).item k (omega arith) o
      ];
      settled = λ q. cc;
    }

-- after a removal
pub kept-remove : (s t : Stored) (i r p : ℕ) (b : Bool) (P : List ℕ) (item : ℕ) (F : List ℕ) → IsKept s i r p b → P ++ item ∷ F ≡ list_of s → Holds (nodes_of t) (P ++ F) → s.made ≤ t.made → t.made ≤ s.made + 1 → t.changed ≤ s.changed + 13
    → KeepsItems (nodes_of s) (nodes_of t) → IsKept t i (r + 1) p true
kept-remove s t i r p b P item F k e h more made changed old =
    let n = length-with P F item in let m = ap length e in let c = k.calls in let d = k.counted in let o = k.made in let small = k.small in
    let bound : length (P ++ F) ≤ 2 ^ 21 = omega (arith, n, m, small) in
    let f = ap length (holds-list t (P ++ F) h bound) in
    record {
      present = holds-kept t (P ++ F) h bound;
      small = omega (arith, f, bound);
      counted = omega (arith, f, n, m, d);
      few = k.few;
      calls = omega (arith, made, changed, c);
      made = omega (arith, more, o);
      items = λ l a. old-below s i r p p b (pool.row t.rows l).item k (omega arith) (old l _ (row-of (length t.roots) t.rows l a));
      settled = λ q. cc;
    }

-- what is kept tells the roots and the lists
pub same-roots : (s t : Stored) → kept_from 0 t.rows t.roots ≡ kept_from 0 s.rows s.roots → t.roots ≡ s.roots
same-roots s t e = sym (kept-roots 0 t.rows t.roots) ∙ ap (map (λ k. k.1)) e ∙ kept-roots 0 s.rows s.roots

-- what an insertion does to the meaning
pub inserts-of : (s t : Stored) (i r p : ℕ) (b : Bool) (path : List (Link × Turn)) (item : ℕ) → IsKept s i r p b → length (list_of s) < 2 ^ 21 → ((P F : List ℕ) → LeadsToGap (nodes_of s) path P F → Holds (nodes_of t) (P ++ item ∷ F)) → kept_from 0 t.rows t.roots ≡ kept_from 0 s.rows s.roots
    → Inserts path item (meaning s i r p b) (meaning t (i + 1) r (max p (item + 1)) true)
inserts-of s t i r p b path item k small h e = record {
  list = λ P F g. (let q = gap-narrow (nodes_of s) (present_nodes (meaning s i r p b)) (list_of s) path P F (wider s i r p b) k.present g in let n = length-with P F item in let m = ap length q.1 in holds-list t (P ++ item ∷ F) (h P F q.0) (omega (arith, n, m, small)));
  roots = same-roots s t e;
  sealed_lists = ap (map (λ k. k.0)) e;
  inserted = refl;
  removed = refl;
  past_greatest = refl;
  is_changed = refl;
}

-- what a removal does to the meaning
pub removes-of : (s t : Stored) (i r p : ℕ) (b : Bool) (path : List (Link × Turn)) (at : Link) → IsKept s i r p b → ((P : List ℕ) (item : ℕ) (F : List ℕ) → LeadsTo (nodes_of s) path at P item F → Holds (nodes_of t) (P ++ F)) → kept_from 0 t.rows t.roots ≡ kept_from 0 s.rows s.roots
    → Removes path at (meaning s i r p b) (meaning t i (r + 1) p true)
removes-of s t i r p b path at k h e = record {
  list = λ P x F g. (let q = node-narrow (nodes_of s) (present_nodes (meaning s i r p b)) (list_of s) path at P x F (wider s i r p b) k.present g in let n = length-with P F x in let m = ap length q.1 in let c = k.small in holds-list t (P ++ F) (h P x F q.0) (omega (arith, n, m, c)));
  roots = same-roots s t e;
  sealed_lists = ap (map (λ k. k.0)) e;
  inserted = refl;
  removed = refl;
  past_greatest = refl;
  is_changed = refl;
}

-- no stamp is of a later version, so a later version reads as this one
child-later : (n m : ℕ) (t : Turn) (p : Option Link) (o : Option Extra) → n ≤ m → ((e : Extra) → o ≡ Some e → e.version ≤ n) → pool.child_by m t p o ≡ pool.child_by n t p o
child-later n m t p None h s = refl
child-later n m t p (Some e) h s = let v = s e refl in ap (λ b. cond (pool.same_turn e.turn t && b) e.to p) (le-leb e.version m (omega (arith, v, h)) ∙ sym (le-leb e.version n v))

row-later : (n m : ℕ) (x : pool.Row) → n ≤ m → ((e : Extra) → x.extra ≡ Some e → e.version ≤ n) → row_in m x ≡ row_in n x
row-later n m x h s = λ i. record { item = x.item; left = child-later n m Left x.left x.extra h s i; right = child-later n m Right x.right x.extra h s i; colour = x.colour }

-- the next version begins as the one that was sealed
sealed-wider : (s : Stored) → IsPresent (length s.roots) s.rows s.root s.copied → Wider (nodes_of s) (nodes_of (after_seal s))
sealed-wider s p = record {
  live = λ l x e. (let q = live-is (length s.roots) s.rows s.root s.copied l x e in let n = length-append s.roots (s.root ∷ []) in
      ap (λ b. cond (not b) (found_in (length (after_seal s).roots) (found s.rows l)) None) q.2 ∙ row-of (length (after_seal s).roots) s.rows l q.0
      ∙ ap Some (row-later (length s.roots) (length (after_seal s).roots) (pool.row s.rows l) (omega (arith, n)) (λ f a. p.stamps l f q.0 a) ∙ sym q.1));
  root = refl;
}

-- so the present list stays
pub seal-list : (s : Stored) (i r p : ℕ) (b : Bool) → IsPresent (length s.roots) s.rows s.root s.copied → IsKept s i r p b → list_of (after_seal s) ≡ list_of s
seal-list s i r p b a k = holds-list (after_seal s) (list_of s) (holds-wider (nodes_of s) (nodes_of (after_seal s)) (list_of s) (sealed-wider s a) k.present) k.small

-- after a seal
pub kept-seal : (s : Stored) (i r p : ℕ) (b : Bool) → IsPresent (length s.roots) s.rows s.root s.copied → IsKept s i r p b → IsKept (after_seal s) i r p false
kept-seal s i r p b a k =
    let e = ap length (seal-list s i r p b a k) in let c = k.small in let d = k.counted in let n = length-append s.roots (s.root ∷ []) in
    record {
      present = holds-kept (after_seal s) (list_of s) (holds-wider (nodes_of s) (nodes_of (after_seal s)) (list_of s) (sealed-wider s a) k.present) k.small;
      small = omega (arith, e, c);
      counted = omega (arith, e, d);
      few = k.few;
      calls = k.calls;
      made = k.made;
      items = k.items;
      settled = λ q l f h w. (let z = a.stamps l f h w in omega (arith, z, n));
    }

-- what a seal does to the meaning
pub seals-of : (s : Stored) (i r p : ℕ) (b : Bool) → IsPresent (length s.roots) s.rows s.root s.copied → IsKept s i r p b → Seals (meaning s i r p b) (meaning (after_seal s) i r p false)
seals-of s i r p b a k = record {
  rows = refl;
  roots = refl;
  root = refl;
  sealed_lists = lists-snoc 0 s.rows s.roots s.root ∙ (let z : 0 + length s.roots ≡ length s.roots = omega arith in ap (λ n. lists_of s ++ list_in n s.rows s.root ∷ []) z);
  list = seal-list s i r p b a k;
  inserted = refl;
  removed = refl;
  past_greatest = refl;
  is_changed = refl;
}

-- the store with room for one insertion or removal is kept, and means the same
pub reserved : (s t : Stored) (i r p : ℕ) (b : Bool) (m : VersionsMeaning) → t ≡ record s { room = 640 } → IsKept s i r p b → meaning s i r p b ≡ m → IsKept t i r p b × (meaning t i r p b ≡ m)
reserved s t i r p b m e k w = (subst (λ (z : Stored). IsKept z i r p b) (sym e) (kept-room s i r p b 640 k), ap (λ z. meaning z i r p b) e ∙ w)

-- a place in the present tree as callers see it is one in the store
pub gap-in : (t : Stored) (i r p : ℕ) (b : Bool) (m : VersionsMeaning) (path : List (Link × Turn)) (P F : List ℕ) → IsKept t i r p b → meaning t i r p b ≡ m → LeadsToGap (present_nodes m) path P F → LeadsToGap (nodes_of t) path P F × (P ++ F ≡ list_of t)
gap-in t i r p b m path P F k e g = gap-narrow (nodes_of t) (present_nodes (meaning t i r p b)) (list_of t) path P F (wider t i r p b) k.present (subst (λ (z : VersionsMeaning). LeadsToGap (present_nodes z) path P F) (sym e) g)

-- and so is a node
pub node-in : (t : Stored) (i r p : ℕ) (b : Bool) (m : VersionsMeaning) (path : List (Link × Turn)) (at : Link) (P : List ℕ) (x : ℕ) (F : List ℕ) → IsKept t i r p b → meaning t i r p b ≡ m → LeadsTo (present_nodes m) path at P x F → LeadsTo (nodes_of t) path at P x F × (P ++ x ∷ F ≡ list_of t)
node-in t i r p b m path at P x F k e g = node-narrow (nodes_of t) (present_nodes (meaning t i r p b)) (list_of t) path at P x F (wider t i r p b) k.present (subst (λ (z : VersionsMeaning). LeadsTo (present_nodes z) path at P x F) (sym e) g)

-- without the item of a node fewer than 2 ^ 21 are left
pub few-left : (t : Stored) (i r p : ℕ) (b : Bool) (P : List ℕ) (x : ℕ) (F : List ℕ) → IsKept t i r p b → P ++ x ∷ F ≡ list_of t → length P + length F < 2 ^ 21
few-left t i r p b P x F k e = let a = length-append P (x ∷ F) in let f = ap length e in let c = k.small in omega (arith, a, f, c)
