-- What the calls of the store do to it, and that they keep the sealed versions.
use Rattle.std.proofs.Common.{◌≡◌, ℕ, zero, suc, ◌+◌, ◌-◌, ◌^◌, ◌<◌, ◌≤◌, true, false, not, List, [], ◌∷◌, ◌++◌, length, length-append, take, refl, sym, ap, ◌∙◌, subst, Option, Some, None, ◌⊎◌, inl, inr, arith}
use Rattle.std.proofs.{Math.Seq.take-length, lemmas.Option.slice_get_within}
use Rattle.std.specs.Prelude.{slice_get}
use Rattle.loc_pool.specs.{declared.Link.Link, declared.Colour.Colour, declared.Turn.Turn}
use Rattle.loc_pool.specs.declared.Turn.TheVariants.{Left, Right}
use Rattle.loc_pool.specs.Maps.{Map, has, put}
use Rattle.loc_pool.specs.Rows as pool
use Rattle.loc_rb.specs.Trees.{Row, Tree, leaf, node, top, items, Fits, child_of}
use Rattle.loc_rb.specs.Nodes.{live, IsLive, CanChange, Makes, Colours, Changes, Roots}
use Rattle.loc_rb.specs.{Places.Holds, Exchanges.Exchanges}
use Rattle.loc_rb.proofs.{OneChange.some-link, Descent.bounded, Descent.at-most-42}
use Rattle.loc_pool.proofs.Found.{found-none, found-append-new, found-append-other, found-put-here, found-put-other, length-put}
use Rattle.loc_persist.specs.{Keeping.KeepsBefore, Use.in_use}
use Rattle.loc_persist.specs.Present.{found_in, row_in, is_among, nodes_at, IsPresent, IsFreshAfter}
use Rattle.loc_persist.specs.Reading.{IsThere, reading, listed, list_in}
use Rattle.loc_persist.specs.Stored.{Stored, kept_from, nodes_of, IsVersion, AreVersions, IsStored}
use Rattle.loc_persist.proofs.Keeping.{there-keeps, reading-there, child-colour}
use Rattle.loc_persist.proofs.Prefix.{prefix-put, prefix-append, fresh-put, fresh-append, fresh-all, version-whole, versions-whole}
use Rattle.loc_persist.proofs.{Use.sum-made, Use.sum-same, Rows.is-found}
use Rattle.loc_persist.proofs.NewestRows.{row-is, not-among, live-is}
use Rattle.loc_persist.proofs.Exchanges.{present-put, present-made, present-root}

-- a version before n stays where what is read before n stays
abbrev pub version-keeps : (i n : ℕ) (rows rows' : Map pool.Row) (root : Option Link) → i < n → KeepsBefore n rows rows' → IsVersion i rows root → IsVersion i rows' root
version-keeps i n rows rows' root b k v = record { tree = v.tree; there = there-keeps i n rows rows' b k v.tree v.there; here = v.here; shallow = v.shallow; deep = v.deep }

-- and so do all sealed versions
pub versions-keep : (rows rows' : Map pool.Row) (roots : List (Option Link)) → KeepsBefore (length roots) rows rows' → AreVersions rows roots → AreVersions rows' roots
versions-keep rows rows' roots k v i root e = version-keeps i (length roots) rows rows' root (slice_get_within roots i root e) k (v i root e)

-- the list of a version is that of its tree
pub list-is : (i : ℕ) (rows : Map pool.Row) (root : Option Link) → (v : IsVersion i rows root) → list_in i rows root ≡ items v.tree
list-is i rows root v = ap (λ o. listed (reading 42 i rows o)) v.here ∙ ap listed (reading-there 42 i rows v.tree v.deep v.there)

list-keeps : (i v n : ℕ) (rows rows' : Map pool.Row) (root : Option Link) → i < v → KeepsBefore v (take n rows) (take n rows') → IsVersion i (take n rows) root → list_in i rows' root ≡ list_in i rows root
list-keeps i v n rows rows' root b k w = list-is i rows' root (version-whole i n rows' root (version-keeps i v (take n rows) (take n rows') root b k w)) ∙ sym (list-is i rows root (version-whole i n rows root w))

kept-from : (i v n : ℕ) (rows rows' : Map pool.Row) (roots : List (Option Link)) → i + length roots ≤ v → KeepsBefore v (take n rows) (take n rows') → ((k : ℕ) (root : Option Link) → slice_get roots k ≡ Some root → IsVersion (i + k) (take n rows) root)
    → kept_from i rows' roots ≡ kept_from i rows roots
unfolding kept_from
kept-from i v n rows rows' [] b k w = refl
kept-from i v n rows rows' (root ∷ roots) b k w =
    let z : i + 0 ≡ i = omega arith in
    let here = subst (λ (j : ℕ). IsVersion j (take n rows) root) z (w 0 root refl) in
    let below = kept-from (i + 1) v n rows rows' roots (omega (arith, b)) k (λ j o e. (let s : i + suc j ≡ i + 1 + j = omega arith in subst (λ (m : ℕ). IsVersion m (take n rows) o) s (w (suc j) o e))) in
    λ j. (list-keeps i v n rows rows' root (omega (arith, b)) k here j, root) ∷ below j

-- **sealed lists stay where what the first nodes read as before the newest version stays**
pub kept-same : (n : ℕ) (rows rows' : Map pool.Row) (roots : List (Option Link)) → KeepsBefore (length roots) (take n rows) (take n rows') → AreVersions (take n rows) roots → kept_from 0 rows' roots ≡ kept_from 0 rows roots
kept-same n rows rows' roots k v = kept-from 0 (length roots) n rows rows' roots (omega arith) k (λ j o e. (let s : j ≡ 0 + j = omega arith in subst (λ (m : ℕ). IsVersion m (take n rows) o) s (v j o e)))

-- the store with a new row
abbrev pub after_make : Stored → Link → ℕ → Colour → Stored
after_make s r item colour = record s { rows = s.rows ++ (r, pool.new_row item None None colour) ∷ []; made = s.made + 1; room = s.room - 1 }

-- after `make`
pub stored-make : (s : Stored) (spare spare' : ℕ) (r : Link) (item : ℕ) (colour : Colour) → IsStored s spare → 1 ≤ s.room → has s.rows r ≡ false → spare' + 1 ≡ spare → IsStored (after_make s r item colour) spare'
stored-make s spare spare' r item colour h a z e =
    let x = pool.new_row item None None colour in let m = sum-made s.copied s.rows r x refl in let l = length-append s.rows ((r, x) ∷ []) in
    let b = h.room in let c = h.paid in let d = h.made in let f = h.counted in
    record {
      present = present-made (length s.roots) s.rows s.root s.copied r x h.present z refl (record { left = λ l a. cc; right = λ l a. cc; extra = λ e l a b. cc });
      fresh = fresh-append s.sealed_nodes s.rows r x h.fresh z refl;
      versions = versions-keep (take s.sealed_nodes s.rows) (take s.sealed_nodes (s.rows ++ (r, x) ∷ [])) s.roots (prefix-append (length s.roots) s.sealed_nodes s.rows r x h.fresh.within) h.versions;
      room = omega (arith, b, e, a);
      paid = omega (arith, m, c);
      made = omega (arith, l, d);
      counted = omega (arith, f, a);
      few = h.few;
    }

-- what `make` does to the nodes
pub makes-of : (s : Stored) (spare : ℕ) (r : Link) (item : ℕ) (colour : Colour) → IsStored s spare → 1 ≤ s.room → has s.rows r ≡ false → Makes (nodes_of s) (nodes_of (after_make s r item colour)) item colour r
makes-of s spare r item colour h a z =
    let n = length s.roots in let x = pool.new_row item None None colour in let none = found-none s.rows r z in
    record {
      fresh = ap (found_in n) none;
      here = ap (found_in n) (found-append-new s.rows r x none);
      others = λ l o. ap (found_in n) (found-append-other s.rows r l x o);
      current = ap not (not-among s.rows s.copied r h.present.known z);
      others_current = λ l o. refl;
      root = refl;
      made = refl;
      changed = refl;
      spare = omega (arith, a);
      kept = kept-same s.sealed_nodes s.rows (s.rows ++ (r, x) ∷ []) s.roots (prefix-append n s.sealed_nodes s.rows r x h.fresh.within) h.versions;
    }

prefix-colour : (v n : ℕ) (rows : Map pool.Row) (at : Link) (k : Colour) → KeepsBefore v (take n rows) (take n (put rows at (record (pool.row rows at) { colour = k })))
prefix-colour v n rows at k = prefix-put v n rows at (record (pool.row rows at) { colour = k }) (λ _. (refl, λ i t b. child-colour i t (pool.row rows at) k))

-- the store with another colour
abbrev pub after_colour : Stored → Link → Colour → Stored
after_colour s at colour = record s { rows = put s.rows at (record (pool.row s.rows at) { colour = colour }) }

-- after `set_colour`
pub stored-colour : (s : Stored) (spare : ℕ) (at : Link) (colour : Colour) → IsStored s spare → has s.rows at ≡ true → IsStored (after_colour s at colour) spare
stored-colour s spare at colour h a =
    let x = record (pool.row s.rows at) { colour = colour } in let m = sum-same s.copied s.rows at x a refl in let l = length-put s.rows at x in
    let c = h.paid in let d = h.made in let c2 = h.present.closed at a in
    record {
      present = present-put (length s.roots) s.rows s.root s.copied at x h.present a (λ e q. h.present.stamps at e a q) (record { left = c2.left; right = c2.right; extra = c2.extra });
      fresh = fresh-put s.sealed_nodes s.rows at x h.fresh a (λ z. h.fresh.fresh at a z);
      versions = versions-keep (take s.sealed_nodes s.rows) (take s.sealed_nodes (put s.rows at x)) s.roots (prefix-colour (length s.roots) s.sealed_nodes s.rows at colour) h.versions;
      room = h.room;
      paid = omega (arith, m, c);
      made = omega (arith, l, d);
      counted = h.counted;
      few = h.few;
    }

-- what `set_colour` does to the nodes
pub colours-of : (s : Stored) (spare : ℕ) (at : Link) (colour : Colour) → IsStored s spare → has s.rows at ≡ true → Colours (nodes_of s) (nodes_of (after_colour s at colour)) at colour
colours-of s spare at colour h a =
    let n = length s.roots in let x = record (pool.row s.rows at) { colour = colour } in
    record {
      here = λ y e. ap (found_in n) (found-put-here s.rows at x (is-found s.rows at a)) ∙ ap (λ (z : Row). Some (record z { colour = colour })) (sym (row-is n s.rows at y e).1);
      others = λ l o. ap (found_in n) (found-put-other s.rows at l x o);
      current = λ l. refl;
      root = refl;
      made = refl;
      changed = refl;
      spare = refl;
      kept = kept-same s.sealed_nodes s.rows (put s.rows at x) s.roots (prefix-colour n s.sealed_nodes s.rows at colour) h.versions;
    }

-- the store with another root
pub stored-root : (s : Stored) (spare : ℕ) (to : Option Link) → IsStored s spare → ((l : Link) → to ≡ Some l → has s.rows l ≡ true) → IsStored (record s { root = to }) spare
stored-root s spare to h a = record { present = present-root (length s.roots) s.rows s.root to s.copied h.present a; fresh = h.fresh; versions = h.versions; room = h.room; paid = h.paid; made = h.made; counted = h.counted; few = h.few }

-- the store after a change
abbrev pub after_change : Stored → Map pool.Row → Option Link → List Link → Stored
after_change s rows root copied = record s { rows = rows; root = root; copied = copied; changed = s.changed + 1; room = s.room - 45 }

-- what holds after a change
pub stored-change : (s : Stored) (spare spare' : ℕ) (rows : Map pool.Row) (root : Option Link) (copied : List Link) (entries : ℕ) → IsStored s spare → 45 ≤ s.room → entries ≤ 44 → KeepsBefore (length s.roots) (take s.sealed_nodes s.rows) (take s.sealed_nodes rows) → IsPresent (length s.roots) rows root copied → IsFreshAfter s.sealed_nodes rows
    → length rows + in_use copied rows ≤ length s.rows + in_use s.copied s.rows + 1 → length s.rows ≤ length rows → spare ≤ spare' + entries + 1 → IsStored (after_change s rows root copied) spare'
stored-change s spare spare' rows root copied entries h a b k p f2 q m e =
    let r = h.room in let c = h.paid in let d = h.made in let f = h.counted in
    record {
      present = p;
      fresh = f2;
      versions = versions-keep (take s.sealed_nodes s.rows) (take s.sealed_nodes rows) s.roots k h.versions;
      room = omega (arith, r, a, b, e);
      paid = omega (arith, c, q);
      made = omega (arith, d, m);
      counted = omega (arith, f, a);
      few = h.few;
    }

-- what `change` does to the nodes
pub changes-of : (s : Stored) (spare : ℕ) (rows : Map pool.Row) (root : Option Link) (copied : List Link) (es es' : List (Link × Turn)) (at r : Link) (turn : Turn) (to : Option Link) → IsStored s spare → 45 ≤ s.room → KeepsBefore (length s.roots) (take s.sealed_nodes s.rows) (take s.sealed_nodes rows)
    → Exchanges (nodes_at (length s.roots) s.rows s.root s.copied) (nodes_at (length s.roots) rows root copied) es es' at r turn to → Changes (nodes_of s) (nodes_of (after_change s rows root copied)) es es' at r turn to
changes-of s spare rows root copied es es' at r turn to h a k x = record {
  rows = record {
    here = x.here;
    above = x.above;
    stand_for = x.stand_for;
    once = x.once;
    others = x.others;
    current = x.current;
    from_root = x.from_root;
    other_root = x.other_root;
    items = x.items;
  };
  made = refl;
  changed = refl;
  spare = omega (arith, a);
  kept = kept-same s.sealed_nodes s.rows rows s.roots k h.versions;
}

-- a current link has a row
pub live-has : (s : Stored) (at : Link) → IsLive (nodes_of s) at → has s.rows at ≡ true
live-has s at k = (live-is (length s.roots) s.rows s.root s.copied at k.0 k.1).0

-- the tree of the newest version stands there
pub fits-there : (s : Stored) (t : Tree) → Fits (live (nodes_of s)) t → IsThere (length s.roots) s.rows t
fits-there s leaf f = tt
fits-there s (node l a x c b) f =
    let q = live-is (length s.roots) s.rows s.root s.copied l _ f.0 in (q.0, sym (ap (λ y. y.item) q.1), sym (ap (λ y. y.left) q.1), sym (ap (λ y. y.right) q.1), fits-there s a f.1, fits-there s b f.2)

-- so it may be sealed
abbrev pub holds-version : (s : Stored) (list : List ℕ) → Holds (nodes_of s) list → length list ≤ 2 ^ 21 → IsVersion (length s.roots) s.rows s.root
holds-version s list h b = record { tree = h.tree; there = fits-there s h.tree h.fits; here = h.root; shallow = bounded h.tree h.balanced; deep = at-most-42 h.tree h.balanced (let e = ap length h.list in omega (arith, e, b)) }

-- and its list is the one that is read
pub holds-list : (s : Stored) (list : List ℕ) → Holds (nodes_of s) list → length list ≤ 2 ^ 21 → list_in (length s.roots) s.rows s.root ≡ list
holds-list s list h b = list-is (length s.roots) s.rows s.root (holds-version s list h b) ∙ h.list

get-snoc : {A : Type 0} → (xs : List A) (y : A) (k : ℕ) (x : A) → slice_get (xs ++ y ∷ []) k ≡ Some x → (slice_get xs k ≡ Some x) ⊎ ((k ≡ length xs) × (y ≡ x))
get-snoc [] y zero x e = inr (refl, (let h : y ≡ x = cc in h))
get-snoc [] y (suc k) x e = cc
get-snoc (z ∷ xs) y zero x e = inl e
get-snoc (z ∷ xs) y (suc k) x e = elim (get-snoc xs y k x e) as (λ _. (slice_get xs k ≡ Some x) ⊎ ((suc k ≡ length (z ∷ xs)) × (y ≡ x))) [ inl p ↦ inl p | inr p ↦ inr ((let q = p.0 in omega (arith, q)), p.1) ]

-- one version more
pub versions-more : (rows : Map pool.Row) (roots : List (Option Link)) (root : Option Link) → AreVersions rows roots → IsVersion (length roots) rows root → AreVersions rows (roots ++ root ∷ [])
versions-more rows roots root v w i o e = elim (get-snoc roots root i o e) as (λ _. IsVersion i rows o) [
  | inl p ↦ v i o p
  | inr p ↦ subst (λ (q : ℕ × Option Link). IsVersion q.0 rows q.1) (λ j. (sym p.0 j, p.1 j)) w
]

-- the store once its newest version is sealed
abbrev pub after_seal : Stored → Stored
after_seal s = record s { roots = s.roots ++ s.root ∷ []; sealed_nodes = length s.rows }

pub stored-seal : (s : Stored) (spare : ℕ) (list : List ℕ) → IsStored s spare → Holds (nodes_of s) list → length list ≤ 2 ^ 21 → length s.roots + 1 < 2 ^ 32 → IsStored (after_seal s) spare
stored-seal s spare list h k b f =
    let l = length-append s.roots (s.root ∷ []) in
    record {
      present = record { stamps = (λ link e a q. let z = h.present.stamps link e a q in omega (arith, z, l)); closed = h.present.closed; known = h.present.known; rooted = h.present.rooted };
      fresh = fresh-all s.rows;
      versions = subst (λ (M : Map pool.Row). AreVersions M (s.roots ++ s.root ∷ [])) (sym (take-length s.rows)) (versions-more s.rows s.roots s.root (versions-whole s.sealed_nodes s.rows s.roots h.versions) (holds-version s list k b));
      room = h.room;
      paid = h.paid;
      made = h.made;
      counted = h.counted;
      few = omega (arith, l, f);
    }

-- at the start there is nothing
pub stored-none : (spare : ℕ) → IsStored (record { rows = []; roots = []; root = None; sealed_nodes = 0; copied = []; made = 0; changed = 0; room = 0 }) spare
unfolding has is_among in_use
stored-none spare = record {
  present = record { stamps = (λ l e a q. cc); closed = (λ l a. cc); known = (λ l a. cc); rooted = (λ l a. cc) };
  fresh = record { within = omega arith; fresh = λ l a b. cc };
  versions = λ i o e. cc;
  room = omega arith;
  paid = omega arith;
  made = omega arith;
  counted = omega arith;
  few = omega arith;
}

-- what may be changed in the store may be changed among its nodes
pub can-of : (s : Stored) (es : List (Link × Turn)) (at : Link) (to : Option Link) → CanChange (nodes_of s) es at to → CanChange (nodes_at (length s.roots) s.rows s.root s.copied) es at to
can-of s es at to k = record { leads = k.leads; once = k.once; from = k.from; to = k.to }

-- the child of a row in a version
pub child-in : (n : ℕ) (turn : Turn) (x : pool.Row) → child_of turn (row_in n x) ≡ pool.child_at n turn x
child-in n Left x = refl
child-in n Right x = refl

-- what `put_root` does to the nodes
pub roots-of : (s : Stored) (to : Option Link) → Roots (nodes_of s) (nodes_of (record s { root = to })) to
roots-of s to = record { root = refl; rows = (λ l. refl); current = (λ l. refl); made = refl; changed = refl; spare = refl; kept = refl }

top-has : (i : ℕ) (rows : Map pool.Row) (t : Tree) (l : Link) → IsThere i rows t → top t ≡ Some l → has rows l ≡ true
top-has i rows leaf l r e = cc
top-has i rows (node k a x c b) l r e = ap (has rows) (sym (some-link k l e)) ∙ r.0

-- the root of a sealed version has a row
pub version-root : (rows : Map pool.Row) (roots : List (Option Link)) (i : ℕ) (root : Option Link) (l : Link) → AreVersions rows roots → slice_get roots i ≡ Some root → root ≡ Some l → has rows l ≡ true
version-root rows roots i root l v e q = let w = v i root e in top-has i rows w.tree l w.there (sym w.here ∙ q)
