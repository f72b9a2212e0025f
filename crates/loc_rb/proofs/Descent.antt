-- The way down to the first node of a tree, and how long a path is.
use Rattle.std.proofs.Common.{◌-◌, ◌≡◌, ℕ, suc, List, [], ◌∷◌, ◌++◌, refl, sym, ap, ◌∙◌, subst, ◌+◌, ◌*◌, ◌^◌, ◌≤◌, arith, Some, None, inl, inr, append_assoc, append-nil, length, length-append}
use Rattle.std.proofs.{Math.Nat.pow-suc, Math.Pow.pow_mono, lemmas.Nat.pow-add, lemmas.Nat.mul-le}
use Rattle.loc_pool.specs.{declared.Link.Link, declared.Turn.Turn}
use Rattle.loc_pool.specs.{declared.Turn.TheVariants.Left, declared.Turn.TheVariants.Right, declared.Colour.Colour}
use Rattle.loc_pool.specs.declared.Colour.TheVariants.{Red, Black}
use Rattle.loc_rb.specs.Trees.{Tree, leaf, node, top, items, Fits, Frame, node_at, plug, entries, before, after, lower, higher}
use Rattle.loc_rb.specs.{Nodes.Nodes, Nodes.live, Places.Spot, Steps.LeftmostPath}
use Rattle.loc_rb.specs.Balance.{IsBlackTop, HasBlackHeight, IsRedBlack, depth}
use Rattle.loc_rb.proofs.Trees.{fits-end, plug-snoc}
use Rattle.loc_rb.proofs.OneChange.{pushed, frame_of, some-link, none-or}

-- a tree of black height h has at least 2 ^ h - 1 items
pub size-black-height : (t : Tree) (h : ℕ) → HasBlackHeight t h → 2 ^ h ≤ length (items t) + 1
size-black-height leaf h p = subst (λ (n : ℕ). 2 ^ n ≤ 1) (sym p) (omega arith)
size-black-height (node l a x Red b) h p = let q = size-black-height a p.2.0 p.2.2 in let n = length-append (items a) (x ∷ items b) in let e = p.2.1 in let e' : h ≡ p.2.0 = omega (arith, e) in subst (λ (i : ℕ). 2 ^ i ≤ length (items a ++ x ∷ items b) + 1) (sym e') (omega (arith, q, n))
size-black-height (node l a x Black b) h p = let q = size-black-height a p.2.0 p.2.2 in let r = size-black-height b p.2.0 p.2.3 in let n = length-append (items a) (x ∷ items b) in let w = pow-suc 2 p.2.0 in let e = p.2.1 in let e' : h ≡ suc p.2.0 = omega (arith, e) in
    subst (λ (i : ℕ). 2 ^ i ≤ length (items a ++ x ∷ items b) + 1) (sym e') (omega (arith, q, r, n, w))

-- no way down is longer than twice the black height, and one more under a red top
pub depth-black-height : (t : Tree) (h : ℕ) → HasBlackHeight t h → (depth t ≤ 2 * h + 1) × (IsBlackTop t → depth t ≤ 2 * h)
depth-black-height leaf h p = (omega arith, λ _. omega arith)
depth-black-height (node l a x Red b) h p = let q = (depth-black-height a p.2.0 p.2.2).1 p.0 in let r = (depth-black-height b p.2.0 p.2.3).1 p.1 in let e = p.2.1 in (omega (arith, q, r, e), λ f. absurd f)
depth-black-height (node l a x Black b) h p = let q = (depth-black-height a p.2.0 p.2.2).0 in let r = (depth-black-height b p.2.0 p.2.3).0 in let e = p.2.1 in (omega (arith, q, r, e), λ _. omega (arith, q, r, e))

-- the bound on paths: with k items, no path has d nodes with 2 ^ d > (k + 1) * (k + 1)
pub bounded : (t : Tree) → IsRedBlack t → 2 ^ depth t ≤ (length (items t) + 1) * (length (items t) + 1)
bounded t b =
    let h = b.1.0 in let s = size-black-height t h b.1.1 in let d = (depth-black-height t h b.1.1).1 b.0 in let e : 2 * h ≡ h + h = omega arith in
    let w : 2 ^ depth t ≤ 2 ^ (2 * h) = pow_mono d in let v = ap (λ n. 2 ^ n) e ∙ pow-add 2 h h in let m = mul-le (2 ^ h) (2 ^ h) (length (items t) + 1) (length (items t) + 1) s s in
    omega (arith, w, v, m)

pub depth-under : (turn : Turn) (l : Link) (t : Tree) (x : ℕ) (c : Colour) (o : Tree) → depth t + 1 ≤ depth (node_at turn l t x c o)
depth-under Left l t x c o = omega arith
depth-under Right l t x c o = omega arith

-- a tree of at most 2 ^ 21 items has no path of more than 42 nodes
pub at-most-42 : (t : Tree) → IsRedBlack t → length (items t) ≤ 2 ^ 21 → depth t ≤ 42
at-most-42 t b h = elim (none-or (depth t - 42)) as (λ _. depth t ≤ 42) [
  | inl z ↦ omega (arith, z)
  | inr z ↦ let p = bounded t b in let y : 43 ≤ depth t = omega (arith, z) in let q : 2 ^ 43 ≤ 2 ^ depth t = pow_mono y in let m = mul-le (length (items t) + 1) (length (items t) + 1) (2 ^ 21 + 1) (2 ^ 21 + 1) (omega (arith, h)) (omega (arith, h)) in omega (arith, p, q, m)
]

pub depth-plug : (C : List Frame) (t : Tree) → length (entries C) + depth t ≤ depth (plug C t)
depth-plug [] t = omega arith
depth-plug (fr ∷ C) t = let q = depth-plug C t in let r = depth-under fr.turn fr.link (plug C t) fr.item fr.colour fr.other in omega (arith, q, r)

-- the way down
abbrev pub leftmost-start : (n : Nodes) (es : List (Link × Turn)) (C : List Frame) (t : Tree) (l : Link) → Spot n es C t → top t ≡ Some l → LeftmostPath n es C t l
leftmost-start n es C t l sp e = record { frames = C; tree = t; spot = sp; here = e; same = refl; low = refl; high = refl }

-- a tree with a top, seen from a side
pub record Sided (turn : Turn) (l : Link) (t : Tree) : Type 0 where
  pub near : Tree
  pub item : ℕ
  pub colour : Colour
  pub far : Tree
  pub is : t ≡ node_at turn l near item colour far

pub sided : (turn : Turn) (l : Link) (t : Tree) → top t ≡ Some l → Sided turn l t
sided turn l leaf e = cc
sided Left l (node m a x c b) e = record { near = a; item = x; colour = c; far = b; is = λ i. node (some-link m l e i) a x c b }
sided Right l (node m a x c b) e = record { near = b; item = x; colour = c; far = a; is = λ i. node (some-link m l e i) a x c b }

pub sided-fits : (n : Nodes) (es : List (Link × Turn)) (C : List Frame) (t : Tree) (turn : Turn) (l : Link) → Spot n es C t → (s : Sided turn l t) → Fits (live n) (node_at turn l s.near s.item s.colour s.far)
sided-fits n es C t turn l sp s = subst (λ (z : Tree). Fits (live n) z) s.is (fits-end (live n) C t sp.fits)

-- a step down to a left child leaves the items before as they are
pub before-left : (C : List Frame) (l : Link) (x : ℕ) (c : Colour) (o : Tree) → before (C ++ frame_of (l, Left) x c o ∷ []) ≡ before C
before-left [] l x c o = refl
before-left (gr ∷ C) l x c o = ap (λ z. lower gr.turn gr.item gr.other ++ z) (before-left C l x c o)

-- and puts the node and its right tree in front of those after
pub after-left : (C : List Frame) (l : Link) (x : ℕ) (c : Colour) (o : Tree) → after (C ++ frame_of (l, Left) x c o ∷ []) ≡ (x ∷ items o) ++ after C
after-left [] l x c o = sym (append-nil (x ∷ items o))
after-left (gr ∷ C) l x c o = let hi = higher gr.turn gr.item gr.other in ap (λ z. z ++ hi) (after-left C l x c o) ∙ append_assoc (x ∷ items o) (after C) hi

-- a step down to a right child puts the left tree and the node behind the items before
pub before-right : (C : List Frame) (l : Link) (x : ℕ) (c : Colour) (o : Tree) → before (C ++ frame_of (l, Right) x c o ∷ []) ≡ before C ++ (items o ++ x ∷ [])
before-right [] l x c o = append-nil (items o ++ x ∷ [])
before-right (gr ∷ C) l x c o = let lo = lower gr.turn gr.item gr.other in ap (λ z. lo ++ z) (before-right C l x c o) ∙ sym (append_assoc lo (before C) (items o ++ x ∷ []))

-- and leaves those after as they are
pub after-right : (C : List Frame) (l : Link) (x : ℕ) (c : Colour) (o : Tree) → after (C ++ frame_of (l, Right) x c o ∷ []) ≡ after C
after-right [] l x c o = refl
after-right (gr ∷ C) l x c o = ap (λ z. z ++ higher gr.turn gr.item gr.other) (after-right C l x c o)

-- one node further down
abbrev pub leftmost-step : (n : Nodes) (ps es : List (Link × Turn)) (C : List Frame) (t : Tree) (at next : Link) → (d : LeftmostPath n es C t at) → (k : Sided Left at d.tree) → top k.near ≡ Some next → ps ≡ es ++ (at, Left) ∷ [] → LeftmostPath n ps C t next
leftmost-step n ps es C t at next d k e q =
    let fr = frame_of (at, Left) k.item k.colour k.far in
    let sp = subst (λ (z : Tree). Spot n es d.frames z) k.is d.spot in
    record {
      frames = d.frames ++ fr ∷ [];
      tree = k.near;
      spot = subst (λ (z : List (Link × Turn)). Spot n z (d.frames ++ fr ∷ []) k.near) (sym q) (pushed n es (at, Left) d.frames k.near k.item k.colour k.far sp);
      here = e;
      same = plug-snoc d.frames fr k.near ∙ ap (λ z. plug d.frames z) (sym k.is) ∙ d.same;
      low = before-left d.frames at k.item k.colour k.far ∙ d.low;
      high = ap (λ z. items k.near ++ z) (after-left d.frames at k.item k.colour k.far) ∙ sym (append_assoc (items k.near) (k.item ∷ items k.far) (after d.frames)) ∙ ap (λ z. items z ++ after d.frames) (sym k.is) ∙ d.high;
    }

-- no top, no tree
pub no-tree : (t : Tree) → top t ≡ None → t ≡ leaf
no-tree leaf e = refl
no-tree (node l a x c b) e = cc

-- where the node has no left child, it is the first of the tree
pub leftmost-end : (at : Link) (t : Tree) → (k : Sided Left at t) → top k.near ≡ None → t ≡ node at leaf k.item k.colour k.far
leftmost-end at t k e = k.is ∙ ap (λ z. node at z k.item k.colour k.far) (no-tree k.near e)
