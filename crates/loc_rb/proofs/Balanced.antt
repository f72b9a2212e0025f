-- Red-black trees by their parts.
use Rattle.std.proofs.Common.{◌≡◌, ℕ, List, [], ◌∷◌, ◌++◌, refl, sym, ap, ◌∙◌, subst, ◌+◌, arith}
use Rattle.loc_pool.specs.{declared.Link.Link, declared.Turn.Turn}
use Rattle.loc_pool.specs.{declared.Turn.TheVariants.Left, declared.Turn.TheVariants.Right, declared.Colour.Colour}
use Rattle.loc_pool.specs.declared.Colour.TheVariants.{Red, Black}
use Rattle.loc_rb.specs.Trees.{Tree, leaf, node, items, Frame, node_at, under, plug, SameButLinks}
use Rattle.loc_rb.specs.{Nodes.Nodes, Places.Spot, Places.Holds, Steps.IsRedTop}
use Rattle.loc_rb.proofs.OneChange.{alike-induction}
use Rattle.loc_rb.specs.Balance.{IsBlackTop, MayHang, black, HasBlackHeight, IsRedBlack, MayBe, Takes, Awaits}

-- a balanced node seen from a side: its children may hang under it, and have one black height
pub balanced-parts : (turn : Turn) (l : Link) (t : Tree) (x : ℕ) (c : Colour) (o : Tree) (h : ℕ) → HasBlackHeight (node_at turn l t x c o) h → MayHang c t × MayHang c o × ((k : ℕ) × (h ≡ black c + k) × HasBlackHeight t k × HasBlackHeight o k)
balanced-parts Left l t x c o h p = p
balanced-parts Right l t x c o h p = (p.1, p.0, (p.2.0, p.2.1, p.2.3, p.2.2))

-- and the other way
pub balanced-join : (turn : Turn) (l : Link) (t : Tree) (x : ℕ) (c : Colour) (o : Tree) (k : ℕ) → MayHang c t → MayHang c o → HasBlackHeight t k → HasBlackHeight o k → HasBlackHeight (node_at turn l t x c o) (black c + k)
balanced-join Left l t x c o k a b p q = (a, b, (k, refl, p, q))
balanced-join Right l t x c o k a b p q = (b, a, (k, refl, q, p))

-- whether a node may hang under a colour depends on its own colour alone
pub may-hang : (d : Colour) (turn : Turn) (l : Link) (t : Tree) (x : ℕ) (c : Colour) (o : Tree) → MayBe d c → MayHang d (node_at turn l t x c o)
may-hang Black turn l t x c o m = tt
may-hang Red Left l t x Black o m = tt
may-hang Red Right l t x Black o m = tt
may-hang Red turn l t x Red o m = cc

-- and the other way
pub may-be : (d : Colour) (turn : Turn) (l : Link) (t : Tree) (x : ℕ) (c : Colour) (o : Tree) → MayHang d (node_at turn l t x c o) → MayBe d c
may-be Black turn l t x c o m = tt
may-be Red Left l t x Black o m = refl
may-be Red Right l t x Black o m = refl
may-be Red Left l t x Red o m = absurd m
may-be Red Right l t x Red o m = absurd m

pub may-be-black : (d : Colour) → MayBe d Black
may-be-black Red = refl
may-be-black Black = tt

pub may-be-red : (d : Colour) → MayBe d Red → d ≡ Black
may-be-red Red m = let q : Red ≡ Black = m in cc
may-be-red Black m = refl

pub black-hangs : (d : Colour) (t : Tree) → IsBlackTop t → MayHang d t
black-hangs Red t b = b
black-hangs Black t b = tt

pub red-top-node_at : (turn : Turn) (l : Link) (t : Tree) (x : ℕ) (o : Tree) → IsRedTop l (node_at turn l t x Red o)
red-top-node_at Left l t x o = refl
red-top-node_at Right l t x o = refl

pub black-top-node_at : (turn : Turn) (l : Link) (t : Tree) (x : ℕ) (o : Tree) → IsBlackTop (node_at turn l t x Black o)
black-top-node_at turn l t x o = may-hang Red turn l t x Black o refl

-- a tree with a red top, seen from a side
pub record RedShape (turn : Turn) (l : Link) (t : Tree) : Type 0 where
  pub near : Tree
  pub item : ℕ
  pub far : Tree
  pub is : t ≡ node_at turn l near item Red far

pub red-shape : (turn : Turn) (l : Link) (t : Tree) → IsRedTop l t → RedShape turn l t
red-shape turn l leaf r = absurd r
red-shape Left l (node m a x Red b) r = record { near = a; item = x; far = b; is = λ i. node (r i) a x Red b }
red-shape Right l (node m a x Red b) r = record { near = b; item = x; far = a; is = λ i. node (r i) a x Red b }
red-shape turn l (node m a x Black b) r = absurd r

pub zero-black : (k : ℕ) → 0 + k ≡ k
zero-black k = omega arith

-- the children of a red node may hang under it and have its black height
pub red-parts : (turn : Turn) (l : Link) (t : Tree) (k : ℕ) (r : RedShape turn l t) → HasBlackHeight t k → IsBlackTop r.near × IsBlackTop r.far × HasBlackHeight r.near k × HasBlackHeight r.far k
red-parts turn l t k r p =
    let q = balanced-parts turn l r.near r.item Red r.far k (subst (λ (z : Tree). HasBlackHeight z k) r.is p) in let z = sym (q.2.1 ∙ zero-black q.2.0) in
    (q.0, q.1, subst (λ (i : ℕ). HasBlackHeight r.near i) z q.2.2, subst (λ (i : ℕ). HasBlackHeight r.far i) z q.2.3)

-- and the other way
pub red-join : (turn : Turn) (l : Link) (t : Tree) (x : ℕ) (o : Tree) (k : ℕ) → IsBlackTop t → IsBlackTop o → HasBlackHeight t k → HasBlackHeight o k → HasBlackHeight (node_at turn l t x Red o) k
red-join turn l t x o k a b p q = subst (λ (i : ℕ). HasBlackHeight (node_at turn l t x Red o) i) (zero-black k) (balanced-join turn l t x Red o k a b p q)

-- a red node that becomes black adds one to its black height
pub red-blackened : (turn : Turn) (l : Link) (t : Tree) (k : ℕ) (r : RedShape turn l t) → HasBlackHeight t k → HasBlackHeight (node_at turn l r.near r.item Black r.far) (1 + k)
red-blackened turn l t k r p = let q = red-parts turn l t k r p in balanced-join turn l r.near r.item Black r.far k tt tt q.2 q.3

-- what hangs at the end of a path
pub takes-plug : (c : Colour) (h : ℕ) (C : List Frame) (d : Colour) (k : ℕ) (t : Tree) → Takes c h C d k → MayHang d t → HasBlackHeight t k → MayHang c (plug C t) × HasBlackHeight (plug C t) h
takes-plug c h [] d k t p m r = (subst (λ (z : Colour). MayHang z t) (sym p.0) m, subst (λ (z : ℕ). HasBlackHeight t z) (sym p.1) r)
takes-plug c h (fr ∷ C) d k t p m r =
    let q = takes-plug fr.colour p.2.0 C d k t p.2.3 m r in (
      may-hang c fr.turn fr.link (plug C t) fr.item fr.colour fr.other p.0,
      subst (λ (z : ℕ). HasBlackHeight (under fr (plug C t)) z) (sym p.2.1) (balanced-join fr.turn fr.link (plug C t) fr.item fr.colour fr.other p.2.0 q.0 p.1 q.1 p.2.2),
    )

-- a balanced tree, cut at the end of a path: what is asked there of the tree that hangs there
pub record TakenBy (c : Colour) (h : ℕ) (C : List Frame) (t : Tree) : Type 0 where
  pub parent : Colour
  pub height : ℕ
  pub takes : Takes c h C parent height
  pub may : MayHang parent t
  pub balanced : HasBlackHeight t height

-- any balanced tree can be cut so
pub taken-by : (c : Colour) (h : ℕ) (C : List Frame) (t : Tree) → MayHang c (plug C t) → HasBlackHeight (plug C t) h → TakenBy c h C t
taken-by c h [] t m r = record { parent = c; height = h; takes = (refl, refl); may = m; balanced = r }
taken-by c h (fr ∷ C) t m r =
    let p = balanced-parts fr.turn fr.link (plug C t) fr.item fr.colour fr.other h r in
    let q = taken-by fr.colour p.2.0 C t p.0 p.2.2 in
    record { parent = q.parent; height = q.height; takes = (may-be c fr.turn fr.link (plug C t) fr.item fr.colour fr.other m, p.1, (p.2.0, p.2.1, p.2.3, q.takes)); may = q.may; balanced = q.balanced }

-- without its last frame
pub record Shorter (c : Colour) (h : ℕ) (C : List Frame) (fr : Frame) (d : Colour) (k : ℕ) : Type 0 where
  pub parent : Colour
  pub takes : Takes c h C parent (black fr.colour + k)
  pub may : MayBe parent fr.colour
  pub other_may : MayHang fr.colour fr.other
  pub other_balanced : HasBlackHeight fr.other k
  pub same : d ≡ fr.colour

pub takes-shorter : (c : Colour) (h : ℕ) (C : List Frame) (fr : Frame) (d : Colour) (k : ℕ) → Takes c h (C ++ fr ∷ []) d k → Shorter c h C fr d k
takes-shorter c h [] fr d k p = record {
  parent = c;
  takes = (refl, p.2.1 ∙ ap (λ (z : ℕ). black fr.colour + z) p.2.3.1);
  may = p.0;
  other_may = p.1;
  other_balanced = subst (λ (z : ℕ). HasBlackHeight fr.other z) p.2.3.1 p.2.2;
  same = sym p.2.3.0;
}
takes-shorter c h (gr ∷ C) fr d k p =
    let q = takes-shorter gr.colour p.2.0 C fr d k p.2.3 in
    record { parent = q.parent; takes = (p.0, p.1, (p.2.0, p.2.1, p.2.2, q.takes)); may = q.may; other_may = q.other_may; other_balanced = q.other_balanced; same = q.same }

-- what the last frame says of its node, where it is popped
pub awaits-popped : (C D : List Frame) (fr : Frame) (k : ℕ) → C ≡ D ++ fr ∷ [] → (w : Awaits C k) → Shorter Red w.whole D fr w.parent k
awaits-popped C D fr k e w = takes-shorter Red w.whole D fr w.parent k (subst (λ (F : List Frame). Takes Red w.whole F w.parent k) e w.takes)

-- the frames above then await that node
abbrev pub awaits-above : (h : ℕ) (D : List Frame) (fr : Frame) (d : Colour) (k : ℕ) → Shorter Red h D fr d k → Awaits D (black fr.colour + k)
awaits-above h D fr d k s = record { whole = h; parent = s.parent; takes = s.takes }

-- with one more frame
pub takes-longer : (c : Colour) (h : ℕ) (C : List Frame) (fr : Frame) (e : Colour) (k : ℕ) → Takes c h C e (black fr.colour + k) → MayBe e fr.colour → MayHang fr.colour fr.other → HasBlackHeight fr.other k → Takes c h (C ++ fr ∷ []) fr.colour k
takes-longer c h [] fr e k p m o r = (subst (λ (z : Colour). MayBe z fr.colour) (sym p.0) m, o, (k, p.1, r, (refl, refl)))
takes-longer c h (gr ∷ C) fr e k p m o r = (p.0, p.1, (p.2.0, p.2.1, p.2.2, takes-longer gr.colour p.2.0 C fr e k p.2.3 m o r))

-- links play no part in it
pub takes-SameButLinks : (C D : List Frame) → SameButLinks C D → (c : Colour) (h : ℕ) (d : Colour) (k : ℕ) → Takes c h C d k → Takes c h D d k
takes-SameButLinks = alike-induction (λ C D. (c : Colour) (h : ℕ) (d : Colour) (k : ℕ) → Takes c h C d k → Takes c h D d k) (λ c h d k p. p) (λ fr gr C D s on c h d k p. (
    let r = subst (λ (z : Colour). MayBe c z × MayHang z fr.other × (h ≡ black z + p.2.0) × Takes z p.2.0 D d k) (sym s.2) (p.0, p.1, p.2.1, on fr.colour p.2.0 d k p.2.3) in
    let w = subst (λ (z : Tree). MayHang gr.colour z × HasBlackHeight z p.2.0) (sym s.3) (r.1, p.2.2) in
    (r.0, w.0, (p.2.0, r.2, w.1, r.3))))

-- so frames under new links await the same
abbrev pub awaits-alike : (C D : List Frame) (k : ℕ) → SameButLinks C D → Awaits C k → Awaits D k
awaits-alike C D k s w = record { whole = w.whole; parent = w.parent; takes = takes-SameButLinks C D s Red w.whole w.parent k w.takes }

-- at the root any tree with a black top does
abbrev pub awaits-root : (C : List Frame) (k : ℕ) → C ≡ [] → Awaits C k
awaits-root C k e = record { whole = k; parent = Red; takes = subst (λ (F : List Frame). Takes Red k F Red k) (sym e) (refl, refl) }

-- a red-black tree, cut at the end of a path
abbrev pub awaits-cut : (C : List Frame) (t : Tree) (b : IsRedBlack (plug C t)) (p : TakenBy Red b.1.0 C t) → Awaits C p.height
awaits-cut C t b p = record { whole = b.1.0; parent = p.parent; takes = p.takes }

-- the whole is red-black again
pub holds-of : (n : Nodes) (es : List (Link × Turn)) (C : List Frame) (t : Tree) (k : ℕ) (L : List ℕ) → Spot n es C t → (w : Awaits C k) → MayHang w.parent t → HasBlackHeight t k → items (plug C t) ≡ L → Holds n L
holds-of n es C t k L sp w m r e =
    let q = takes-plug Red w.whole C w.parent k t w.takes m r in
    record { tree = plug C t; fits = sp.fits; apart = sp.apart; root = sp.root; balanced = (q.0, (w.whole, q.1)); list = e }
