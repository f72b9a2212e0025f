-- The steps that mend a tree in which a subtree lacks a black node.
use Rattle.std.proofs.Common.{◌≡◌, ℕ, Option, List, [], ◌∷◌, ◌++◌, refl, sym, ap, ◌∙◌, subst, ◌+◌, arith, Some, None}
use Rattle.loc_pool.specs.{declared.Link.Link, declared.Turn.Turn}
use Rattle.loc_pool.specs.{declared.Turn.TheVariants.Left, declared.Turn.TheVariants.Right, declared.Colour.Colour}
use Rattle.loc_pool.specs.declared.Colour.TheVariants.{Red, Black}
use Rattle.loc_rb.specs.Trees.{Row, Tree, leaf, node, top, items, Fits, Frame, node_at, plug, flip, child_of}
use Rattle.loc_rb.specs.Nodes.{Nodes, live, IsLive, Colours}
use Rattle.loc_rb.specs.Balance.{IsBlackTop, MayHang, black, HasBlackHeight, MayBe, Awaits}
use Rattle.loc_rb.specs.Places.{Spot, Holds}
use Rattle.loc_rb.specs.Steps.{IsRedTop, ToRotate, Replaced, LacksBlack, Uneven, Siblings}
use Rattle.loc_rb.proofs.Trees.{inner, fits-end, node-row, plug-snoc}
use Rattle.loc_rb.proofs.OneChange.{pushed, popped, frame_of, SameButLinks-refl, no-frames}
use Rattle.loc_rb.proofs.ReadCalls.{colour-is, child-is}
use Rattle.loc_rb.proofs.Rotations.{to_turn, to-rotate, turned_tree, node_at-flip}
use Rattle.loc_rb.proofs.{Recolouring.recolour-spot, Recolouring.recolour-other, Descent.sided}
use Rattle.loc_rb.proofs.Balanced.{balanced-parts, may-be, balanced-join, may-hang, may-be-black, black-hangs, black-top-node_at, RedShape, red-shape, red-parts, red-join, red-blackened, zero-black, awaits-popped, awaits-above, awaits-alike, awaits-root, takes-longer, holds-of}
use Rattle.loc_rb.proofs.ItemLists.{items-alike, items-under, items-turned, ReplacedUp, replaced-up}
use Rattle.loc_rb.proofs.InsertionSteps.{popped-list, red-top-live}

-- the sibling's side, as the code turns it
pub sibling-turn : (turn o : Turn) (at sib : Link) (x w : ℕ) (cx cy : Colour) (t a b : Tree) → o ≡ flip turn → to_turn o at sib x w cx cy t a b ≡ node_at turn at t x cx (node_at turn sib a w cy b)
sibling-turn Left o at sib x w cx cy t a b e = ap (λ z. to_turn z at sib x w cx cy t a b) e
sibling-turn Right o at sib x w cx cy t a b e = ap (λ z. to_turn z at sib x w cx cy t a b) e

-- and the tree that its rotation leads to
pub sibling-turned : (turn o : Turn) (low high : Link) (x w : ℕ) (cx cy : Colour) (t a b : Tree) → o ≡ flip turn → turned_tree o low high x w cx cy t a b ≡ node_at turn high (node_at turn low t x cx a) w cy b
sibling-turned Left o low high x w cx cy t a b e = ap (λ z. turned_tree z low high x w cx cy t a b) e
sibling-turned Right o low high x w cx cy t a b e = ap (λ z. turned_tree z low high x w cx cy t a b) e

-- the items stay in their order
pub sibling-items : (turn : Turn) (at sib low high : Link) (x w : ℕ) (cx cy dx dy : Colour) (t a b : Tree) → items (node_at turn high (node_at turn low t x dx a) w dy b) ≡ items (node_at turn at t x cx (node_at turn sib a w cy b))
sibling-items turn at sib low high x w cx cy dx dy t a b =
    ap items (sym (sibling-turned turn (flip turn) low high x w dx dy t a b refl)) ∙ items-turned (flip turn) at sib low high x w cx cy dx dy t a b ∙ ap items (sibling-turn turn (flip turn) at sib x w cx cy t a b refl)

-- the tree is red-black again
pub sides-level : (n : Nodes) (ps : List (Link × Turn)) (D : List Frame) (turn : Turn) (high low : Link) (t : Tree) (x : ℕ) (a : Tree) (y : ℕ) (colour : Colour) (b : Tree) (k : ℕ) (L : List ℕ)
    → Spot n ps D (node_at turn high (node_at turn low t x Black a) y colour b) → (w : Awaits D (black colour + (1 + k))) → MayBe w.parent colour → HasBlackHeight t k → HasBlackHeight a k → HasBlackHeight b (1 + k) → IsBlackTop b
    → items (plug D (node_at turn high (node_at turn low t x Black a) y colour b)) ≡ L → Holds n L
sides-level n ps D turn high low t x a y colour b k L sp w m rt ra rb bb e =
    let V = node_at turn low t x Black a in
    holds-of n ps D (node_at turn high V y colour b) (black colour + (1 + k)) L sp w (may-hang _ _ _ _ _ _ _ m) (balanced-join _ _ _ _ _ _ _ (black-hangs colour V (black-top-node_at _ _ _ _ _)) (black-hangs colour b bb) (balanced-join _ _ _ _ _ _ _ tt tt rt ra) rb) e

pub sibling-fits : (n : Nodes) (es : List (Link × Turn)) (at : Link) (turn : Turn) (sib : Link) (L : List ℕ) → (s : Siblings n es at turn sib L) → Fits (live n) (node_at turn at s.tree s.item s.colour (node_at turn sib s.near s.sibling_item Black s.far)) × Fits (live n) (node_at turn sib s.near s.sibling_item Black s.far)
sibling-fits n es at turn sib L s =
    let S = node_at turn sib s.near s.sibling_item Black s.far in
    let p = fits-end (live n) s.frames (node_at turn at s.tree s.item s.colour S) s.spot.fits in
    (p, (inner (live n) turn at s.tree s.item s.colour S p).1)

pub at-live : (n : Nodes) (es : List (Link × Turn)) (at : Link) (turn : Turn) (sib : Link) (L : List ℕ) → Siblings n es at turn sib L → IsLive n at
at-live n es at turn sib L s = node-row (live n) turn at s.tree s.item s.colour (node_at turn sib s.near s.sibling_item Black s.far) (sibling-fits n es at turn sib L s).0

pub sibling-live : (n : Nodes) (es : List (Link × Turn)) (at : Link) (turn : Turn) (sib : Link) (L : List ℕ) → Siblings n es at turn sib L → IsLive n sib
sibling-live n es at turn sib L s = node-row (live n) turn sib s.near s.sibling_item Black s.far (sibling-fits n es at turn sib L s).1

-- the sibling becomes red
pub sibling-red : (n m : Nodes) (es : List (Link × Turn)) (at : Link) (turn : Turn) (sib : Link) (L : List ℕ) → (s : Siblings n es at turn sib L) → Colours n m sib Red
    → Spot m es s.frames (node_at turn at s.tree s.item s.colour (node_at turn sib s.near s.sibling_item Red s.far))
sibling-red n m es at turn sib L s d = recolour-other n m es s.frames turn at turn sib s.near s.sibling_item Black Red s.far s.item s.colour s.tree d s.spot

sibling-red-sub : (n : Nodes) (es : List (Link × Turn)) (at : Link) (turn : Turn) (sib : Link) (L : List ℕ) → (s : Siblings n es at turn sib L) → IsBlackTop s.near → IsBlackTop s.far → HasBlackHeight (node_at turn at s.tree s.item Black (node_at turn sib s.near s.sibling_item Red s.far)) (1 + s.height)
sibling-red-sub n es at turn sib L s bn bf =
    let S = node_at turn sib s.near s.sibling_item Red s.far in
    balanced-join turn at s.tree s.item Black S s.height tt tt s.balanced (red-join turn sib s.near s.sibling_item s.far s.height bn bf s.near_balanced s.far_balanced)

sibling-red-list : (n : Nodes) (es : List (Link × Turn)) (at : Link) (turn : Turn) (sib : Link) (L : List ℕ) → (s : Siblings n es at turn sib L) → items (plug s.frames (node_at turn at s.tree s.item Black (node_at turn sib s.near s.sibling_item Red s.far))) ≡ L
sibling-red-list n es at turn sib L s =
    items-alike _ _ _ _ (SameButLinks-refl s.frames) (items-under turn at at _ _ _ _ _ _ _ refl (items-under turn sib sib _ _ _ _ _ _ _ refl refl)) ∙ s.list

-- under a black node the tree of `at` then lacks a black node
pub sibling-red-under-black : (n m : Nodes) (es : List (Link × Turn)) (at : Link) (turn : Turn) (sib : Link) (L : List ℕ) → (s : Siblings n es at turn sib L) → Colours n m sib Red → IsBlackTop s.near → IsBlackTop s.far
    → ((y : Row) → m.rows at ≡ Some y → Black ≡ y.colour) → (s.colour ≡ Black) × LacksBlack m es L
sibling-red-under-black n m es at turn sib L s d bn bf f =
    let S = node_at turn sib s.near s.sibling_item Red s.far in let sp = sibling-red n m es at turn sib L s d in
    let e = colour-is m turn at s.tree s.item s.colour Black S (fits-end (live m) s.frames (node_at turn at s.tree s.item s.colour S) sp.fits) f in (
      sym e,
      record {
        frames = s.frames;
        tree = node_at turn at s.tree s.item Black S;
        spot = subst (λ (z : Colour). Spot m es s.frames (node_at turn at s.tree s.item z S)) (sym e) sp;
        height = 1 + s.height;
        awaits = subst (λ (z : Colour). Awaits s.frames (black z + (1 + s.height))) (sym e) s.awaits;
        balanced = sibling-red-sub n es at turn sib L s bn bf;
        black_top = black-top-node_at turn at s.tree s.item S;
        list = sibling-red-list n es at turn sib L s;
      },
    )

-- under a red node, which becomes black, the tree is red-black
pub sibling-red-under-red : (n m p : Nodes) (es : List (Link × Turn)) (at : Link) (turn : Turn) (sib : Link) (L : List ℕ) → (s : Siblings n es at turn sib L) → Colours n m sib Red → Colours m p at Black → IsBlackTop s.near → IsBlackTop s.far
    → ((y : Row) → m.rows at ≡ Some y → Red ≡ y.colour) → Holds p L
sibling-red-under-red n m p es at turn sib L s d d' bn bf f =
    let S = node_at turn sib s.near s.sibling_item Red s.far in let sp = sibling-red n m es at turn sib L s d in let e = colour-is m turn at s.tree s.item s.colour Red S (fits-end _ _ _ sp.fits) f in
    let w = subst (λ (i : ℕ). Awaits s.frames i) (zero-black (1 + s.height)) (subst (λ (z : Colour). Awaits s.frames (black z + (1 + s.height))) (sym e) s.awaits) in
    holds-of p es s.frames (node_at turn at s.tree s.item Black S) (1 + s.height) L (recolour-spot _ _ _ _ _ _ _ _ _ _ _ d' sp) w (may-hang _ _ _ _ _ _ _ (may-be-black w.parent)) (sibling-red-sub n es at turn sib L s bn bf) (sibling-red-list n es at turn sib L s)

-- a sibling is to rise
abbrev pub sibling-to-rotate : (n : Nodes) (ps es : List (Link × Turn)) (C : List Frame) (at : Link) (turn o : Turn) (sib : Link) (x w : ℕ) (cx cy : Colour) (t a b : Tree) → o ≡ flip turn → ps ≡ es ++ (at, o) ∷ [] → Spot n es C (node_at turn at t x cx (node_at turn sib a w cy b)) → ToRotate n ps sib
sibling-to-rotate n ps es C at turn o sib x w cx cy t a b e q sp =
    to-rotate n ps es C o at sib x w cx cy t a b q (subst (λ (z : Tree). Spot n es C z) (sym (sibling-turn turn o at sib x w cx cy t a b e)) sp)

-- a black one
abbrev pub sibling-rotation : (n : Nodes) (es : List (Link × Turn)) (at : Link) (turn o : Turn) (sib : Link) (L : List ℕ) (ps : List (Link × Turn)) → Siblings n es at turn sib L → o ≡ flip turn → ps ≡ es ++ (at, o) ∷ [] → ToRotate n ps sib
sibling-rotation n es at turn o sib L ps s e q = sibling-to-rotate n ps es s.frames at turn o sib s.item s.sibling_item s.colour Black s.tree s.near s.far e q s.spot

-- it rises, and its far child becomes black: the tree is red-black
pub sibling-rotated : (n m m' : Nodes) (es ps : List (Link × Turn)) (at : Link) (turn o : Turn) (sib low high far : Link) (colour : Colour) (L : List ℕ) → (s : Siblings n es at turn sib L) → IsRedTop far s.far → o ≡ flip turn → colour ≡ s.colour
    → Replaced m ps s.frames (turned_tree o low high s.item s.sibling_item Black colour s.tree s.near s.far) → Colours m m' far Black → Holds m' L
sibling-rotated n m m' es ps at turn o sib low high far colour L s rt eo e mv d =
    let D = mv.0 in let r = red-shape turn far s.far rt in let V = node_at turn low s.tree s.item Black s.near in let F = node_at turn far r.near r.item Black r.far in
    let sp = subst (λ (t : Tree). Spot m ps D t) (sibling-turned turn o low high s.item s.sibling_item Black colour s.tree s.near s.far eo) mv.2 in
    let p = recolour-other m m' ps D turn high turn far r.near r.item Red Black r.far s.sibling_item colour V d (subst (λ (t : Tree). Spot m ps D (node_at turn high V s.sibling_item colour t)) r.is sp) in
    sides-level m' ps D turn high low s.tree s.item s.near s.sibling_item s.colour F s.height L (subst (λ (z : Colour). Spot m' ps D (node_at turn high V s.sibling_item z F)) e p)
    (awaits-alike _ _ _ mv.1 s.awaits) s.may s.balanced s.near_balanced (red-blackened _ _ _ _ r s.far_balanced) (black-top-node_at _ _ _ _ _)
    (items-alike _ _ _ _ mv.1 (items-under turn high high V V s.sibling_item s.colour s.colour s.far F refl (items-under turn far far _ _ _ _ _ _ _ refl refl ∙ ap items (sym r.is)) ∙ sibling-items turn at sib low high s.item s.sibling_item s.colour Black Black s.colour s.tree s.near s.far) ∙ s.list)

-- the near nephew is to rise over the sibling
abbrev pub nephew-rotation : (n : Nodes) (es : List (Link × Turn)) (at : Link) (turn o : Turn) (sib near : Link) (L : List ℕ) (ps qs : List (Link × Turn)) → (s : Siblings n es at turn sib L) → IsRedTop near s.near → o ≡ flip turn
    → ps ≡ es ++ (at, o) ∷ [] → qs ≡ ps ++ (sib, turn) ∷ [] → ToRotate n qs near
nephew-rotation n es at turn o sib near L ps qs s t e p q =
    let r = red-shape (flip turn) near s.near t in
    let S = node_at turn sib s.near s.sibling_item Black s.far in let T = to_turn turn sib near s.sibling_item r.item Black Red s.far r.near r.far in
    let sp = subst (λ (t : Turn). Spot n es s.frames (node_at t at S s.item s.colour s.tree)) (sym e) (subst (λ (t : Tree). Spot n es s.frames t) (sym (node_at-flip turn at S s.item s.colour s.tree)) s.spot) in
    let C = s.frames ++ frame_of (at, o) s.item s.colour s.tree ∷ [] in
    to-rotate n qs ps C turn sib near s.sibling_item r.item Black Red s.far r.near r.far q
    (subst (λ (z : List (Link × Turn)). Spot n z C T) (sym p)
    (pushed n es (at, o) s.frames T s.item s.colour s.tree (subst (λ (t : Tree). Spot n es s.frames (node_at o at (node_at turn sib t s.sibling_item Black s.far) s.item s.colour s.tree)) r.is sp)))

-- the nephew seen from the other side
pub nephew-eq : (turn o : Turn) (l : Link) (a : Tree) (x : ℕ) (b : Tree) → o ≡ flip turn → node_at (flip turn) l a x Red b ≡ node_at (flip o) l b x Red a
nephew-eq Left o l a x b e = ap (λ z. node_at (flip z) l b x Red a) (sym e)
nephew-eq Right o l a x b e = ap (λ z. node_at (flip z) l b x Red a) (sym e)

-- the nephew is to rise over `at`
abbrev pub nephew-second : (n m : Nodes) (es ps : List (Link × Turn)) (at : Link) (turn o : Turn) (sib near low mid : Link) (L : List ℕ) → (s : Siblings n es at turn sib L) → (t : IsRedTop near s.near) → o ≡ flip turn
    → (let r = red-shape (flip turn) near s.near t in Replaced m ps (s.frames ++ frame_of (at, o) s.item s.colour s.tree ∷ []) (turned_tree turn low mid s.sibling_item r.item Black Red s.far r.near r.far)) → ToRotate m ps mid
nephew-second n m es ps at turn o sib near low mid L s t e mv =
    let r = red-shape (flip turn) near s.near t in let B = node_at turn low r.near s.sibling_item Black s.far in
    let k = replaced-up m ps s.frames at o s.item s.colour s.tree (turned_tree turn low mid s.sibling_item r.item Black Red s.far r.near r.far) mv in
    to-rotate m ps k.above k.frames o k.up mid s.item r.item s.colour Red s.tree r.far B k.entry
    (subst (λ (t : Tree). Spot m k.above k.frames (node_at o k.up t s.item s.colour s.tree)) (nephew-eq turn o mid B r.item r.far e) k.spot)

-- it rose twice: the tree is red-black
pub nephew-rotated : (n m m' : Nodes) (es ps qs : List (Link × Turn)) (at : Link) (turn o : Turn) (sib near low mid l h : Link) (colour : Colour) (L : List ℕ) → (s : Siblings n es at turn sib L) → (r : RedShape (flip turn) near s.near) → o ≡ flip turn → colour ≡ s.colour
    → (k : ReplacedUp m ps s.frames o s.item s.colour s.tree (turned_tree turn low mid s.sibling_item r.item Black Red s.far r.near r.far))
    → Replaced m' qs k.frames (turned_tree o l h s.item r.item Black colour s.tree r.far (node_at turn low r.near s.sibling_item Black s.far)) → Holds m' L
nephew-rotated n m m' es ps qs at turn o sib near low mid l h colour L s r e ec k mv =
    let B = node_at turn low r.near s.sibling_item Black s.far in let V = node_at turn l s.tree s.item Black r.far in let D = mv.0 in
    let S = node_at turn sib s.near s.sibling_item Black s.far in let W = turned_tree turn low mid s.sibling_item r.item Black Red s.far r.near r.far in
    let sp = subst (λ (t : Tree). Spot m' qs D t) (sibling-turned turn o l h s.item r.item Black colour s.tree r.far B e) mv.2 in let parts = red-parts _ _ _ _ r s.near_balanced in
    sides-level m' qs D turn h l s.tree s.item r.far r.item s.colour B s.height L (subst (λ (z : Colour). Spot m' qs D (node_at turn h V r.item z B)) ec sp)
    (awaits-alike k.frames D (black s.colour + (1 + s.height)) mv.1 (awaits-alike s.frames k.frames _ k.alike s.awaits)) s.may s.balanced parts.3 (balanced-join _ _ _ _ _ _ _ tt tt parts.2 s.far_balanced) (black-top-node_at _ _ _ _ _)
    (items-alike k.frames D (node_at o k.up W s.item s.colour s.tree) _ mv.1
    (sibling-items turn k.up mid l h s.item r.item s.colour Red Black s.colour s.tree r.far B
    ∙ ap items (sym (sibling-turn turn o k.up mid s.item r.item s.colour Red s.tree r.far B e)) ∙ ap (λ t. items (node_at o k.up t s.item s.colour s.tree)) (sym (nephew-eq turn o mid B r.item r.far e)))
    ∙ items-alike s.frames k.frames _ _ k.alike (items-under o at k.up S W s.item s.colour s.colour s.tree s.tree (items-turned turn sib near low mid s.sibling_item r.item Black Red Black Red s.far r.near r.far ∙ ap (λ t. items (node_at turn sib t s.sibling_item Black s.far)) (sym r.is)) refl
    ∙ ap (λ t. items (node_at t at S s.item s.colour s.tree)) e ∙ ap items (node_at-flip turn at S s.item s.colour s.tree)) ∙ s.list)

-- the far child of a sibling that rose is live
pub far-risen-live : (n m : Nodes) (es ps : List (Link × Turn)) (at : Link) (turn o : Turn) (sib low high far : Link) (colour : Colour) (L : List ℕ) → (s : Siblings n es at turn sib L) → IsRedTop far s.far → o ≡ flip turn
    → Replaced m ps s.frames (turned_tree o low high s.item s.sibling_item Black colour s.tree s.near s.far) → IsLive m far
far-risen-live n m es ps at turn o sib low high far colour L s rt e mv =
    let V = node_at turn low s.tree s.item Black s.near in
    let sp = subst (λ (t : Tree). Spot m ps mv.0 t) (sibling-turned turn o low high s.item s.sibling_item Black colour s.tree s.near s.far e) mv.2 in
    red-top-live m far s.far rt (inner (live m) turn high V s.sibling_item colour s.far (fits-end (live m) mv.0 (node_at turn high V s.sibling_item colour s.far) sp.fits)).1

-- the sibling, seen from the side of the child that lacks a black node
pub record BlackShape (turn : Turn) (l : Link) (t : Tree) (k : ℕ) : Type 0 where
  pub near : Tree
  pub item : ℕ
  pub far : Tree
  pub is : t ≡ node_at turn l near item Black far
  pub near_balanced : HasBlackHeight near k
  pub far_balanced : HasBlackHeight far k

-- a tree with a black top has that shape
pub black-shape : (turn : Turn) (l : Link) (t : Tree) (k : ℕ) → IsBlackTop t → HasBlackHeight t (1 + k) → top t ≡ Some l → BlackShape turn l t k
black-shape turn l t k bt r e =
    let s = sided turn l t e in let c = may-be Red turn l s.near s.item s.colour s.far (subst (λ (z : Tree). IsBlackTop z) s.is bt) in
    let p = balanced-parts turn l s.near s.item s.colour s.far (1 + k) (subst (λ (z : Tree). HasBlackHeight z (1 + k)) s.is r) in
    let z : p.2.0 ≡ k = (let h : 1 + k ≡ 1 + p.2.0 = p.2.1 ∙ ap (λ i. black i + p.2.0) c in omega (arith, h)) in
    record { near = s.near; item = s.item; far = s.far; is = s.is ∙ ap (λ i. node_at turn l s.near s.item i s.far) c; near_balanced = subst (λ (i : ℕ). HasBlackHeight s.near i) z p.2.2; far_balanced = subst (λ (i : ℕ). HasBlackHeight s.far i) z p.2.3 }

-- the black sibling and its children
abbrev pub siblings : (n : Nodes) (es : List (Link × Turn)) (at : Link) (turn : Turn) (sib : Link) (L : List ℕ) → (u : Uneven n es at turn L) → IsBlackTop u.other → top u.other ≡ Some sib → Siblings n es at turn sib L
siblings n es at turn sib L u b e =
    let k = black-shape turn sib u.other u.height b u.other_balanced e in
    record {
      frames = u.frames;
      tree = u.tree;
      item = u.item;
      colour = u.colour;
      near = k.near;
      sibling_item = k.item;
      far = k.far;
      spot = subst (λ (t : Tree). Spot n es u.frames (node_at turn at u.tree u.item u.colour t)) k.is u.spot;
      height = u.height;
      awaits = u.awaits;
      may = u.may;
      balanced = u.balanced;
      black_top = u.black_top;
      near_balanced = k.near_balanced;
      far_balanced = k.far_balanced;
      list = subst (λ (t : Tree). items (plug u.frames (node_at turn at u.tree u.item u.colour t)) ≡ L) k.is u.list;
    }

-- what the tests of the children ask for
pub other-fits : (n : Nodes) (es : List (Link × Turn)) (at : Link) (turn o : Turn) (L : List ℕ) → (u : Uneven n es at turn L) → o ≡ flip turn → Fits (live n) (node_at o at u.other u.item u.colour u.tree)
other-fits n es at turn o L u e =
    subst (λ (t : Tree). Fits (live n) t) (sym (ap (λ z. node_at z at u.other u.item u.colour u.tree) e ∙ node_at-flip turn at u.other u.item u.colour u.tree)) (fits-end _ _ _ u.spot.fits)

-- the siblings, by what the reading of the child tells
abbrev pub siblings-read : (n : Nodes) (es : List (Link × Turn)) (at : Link) (turn o : Turn) (sib : Link) (L : List ℕ) (answer : Option Link) → (u : Uneven n es at turn L) → IsBlackTop u.other → o ≡ flip turn
    → ((y : Row) → n.rows at ≡ Some y → answer ≡ child_of o y) → answer ≡ Some sib → Siblings n es at turn sib L
siblings-read n es at turn o sib L answer u b e h s = siblings n es at turn sib L u b (sym (child-is n o at u.other u.item u.colour u.tree answer (other-fits n es at turn o L u e) h) ∙ s)

-- there is a sibling
pub no-sibling : (t : Tree) (k : ℕ) → HasBlackHeight t (1 + k) → top t ≡ None → ⊥
no-sibling leaf k r e = let z : 1 + k ≡ 0 = r in omega (arith, z)
no-sibling (node l a x c b) k r e = cc

-- one level up
pub uneven : (n : Nodes) (ps es : List (Link × Turn)) (at : Link) (turn : Turn) (L : List ℕ) → LacksBlack n ps L → ps ≡ es ++ (at, turn) ∷ [] → Uneven n es at turn L
uneven n ps es at turn L H q =
    let k = popped n ps es (at, turn) H.frames H.tree H.spot q in
    let fr = frame_of (at, turn) k.item k.colour k.other in let s = awaits-popped H.frames k.front fr (1 + H.height) k.is H.awaits in
    record {
      frames = k.front;
      tree = H.tree;
      item = k.item;
      colour = k.colour;
      other = k.other;
      spot = k.spot;
      height = H.height;
      awaits = awaits-above H.awaits.whole k.front fr H.awaits.parent (1 + H.height) s;
      may = s.may;
      balanced = H.balanced;
      black_top = H.black_top;
      other_may = s.other_may;
      other_balanced = s.other_balanced;
      list = popped-list H.frames k.front at turn H.tree k.item k.colour k.other L k.is H.list;
    }

-- a pop and a test of the sibling lead there, with what the test tells
pub uneven-tested : (P : Tree → Type 0) (n : Nodes) (ps es : List (Link × Turn)) (at : Link) (turn o : Turn) (L : List ℕ) → LacksBlack n ps L → ps ≡ es ++ (at, turn) ∷ [] → o ≡ flip turn
    → ((t : Tree) (x : ℕ) (c : Colour) (other : Tree) → Fits (live n) (node_at o at t x c other) → P t) → (u : Uneven n es at turn L) × P u.other
uneven-tested P n ps es at turn o L H q e test = let u = uneven n ps es at turn L H q in (u, test u.other u.item u.colour u.tree (other-fits n es at turn o L u e))

-- past the root nothing is lacking
pub lacks-root : (n : Nodes) (ps : List (Link × Turn)) (L : List ℕ) → LacksBlack n ps L → ps ≡ [] → Holds n L
lacks-root n ps L H z = holds-of n ps H.frames H.tree H.height L H.spot (awaits-root H.frames H.height (no-frames H.frames (H.spot.path ∙ z))) H.black_top H.balanced H.list

-- where the sibling is red
pub red-parent : (c : Colour) (l : Link) (t : Tree) → IsRedTop l t → MayHang c t → c ≡ Black
red-parent Black l t r m = refl
red-parent Red l leaf r m = absurd r
red-parent Red l (node k a x Red b) r m = absurd m
red-parent Red l (node k a x Black b) r m = absurd r

-- a red sibling is to rise
abbrev pub red-sibling-rotation : (n : Nodes) (es : List (Link × Turn)) (at : Link) (turn o : Turn) (sib : Link) (L : List ℕ) (ps : List (Link × Turn)) → (u : Uneven n es at turn L) → IsRedTop sib u.other → o ≡ flip turn → ps ≡ es ++ (at, o) ∷ [] → ToRotate n ps sib
red-sibling-rotation n es at turn o sib L ps u t e q =
    let r = red-shape turn sib u.other t in
    sibling-to-rotate n ps es u.frames at turn o sib u.item r.item u.colour Red u.tree r.near r.far e q (subst (λ (t : Tree). Spot n es u.frames (node_at turn at u.tree u.item u.colour t)) r.is u.spot)

-- it rises over `at`, which becomes red, and has a black sibling then
pub red-sibling-rotated : (n m : Nodes) (es ps qs : List (Link × Turn)) (at : Link) (turn o : Turn) (sib low high : Link) (L : List ℕ) → (u : Uneven n es at turn L) → IsRedTop sib u.other → (r : RedShape turn sib u.other) → o ≡ flip turn
    → Replaced m ps u.frames (turned_tree o low high u.item r.item Red Black u.tree r.near r.far) → qs ≡ ps ++ (high, turn) ∷ []
    → (v : Uneven m qs low turn L) × IsBlackTop v.other × (v.colour ≡ Red)
red-sibling-rotated n m es ps qs at turn o sib low high L u rt r e mv pushed_is =
    let D = mv.0 in let V = node_at turn low u.tree u.item Red r.near in
    let sp = subst (λ (t : Tree). Spot m ps D t) (sibling-turned turn o low high u.item r.item Red Black u.tree r.near r.far e) mv.2 in
    let cb = red-parent u.colour sib u.other rt u.other_may in
    let parts = red-parts turn sib u.other (1 + u.height) r u.other_balanced in
    let back : 1 + u.height ≡ 0 + (1 + u.height) = sym (zero-black (1 + u.height)) in
    let w = awaits-alike u.frames D (1 + (0 + (1 + u.height))) mv.1 (subst (λ (i : ℕ). Awaits u.frames (1 + i)) back (subst (λ (z : Colour). Awaits u.frames (black z + (1 + u.height))) cb u.awaits)) in
    let v : Uneven m (ps ++ (high, turn) ∷ []) low turn L = record {
      frames = D ++ frame_of (high, turn) r.item Black r.far ∷ [];
      tree = u.tree;
      item = u.item;
      colour = Red;
      other = r.near;
      spot = pushed m ps (high, turn) D V r.item Black r.far sp;
      height = u.height;
      awaits = record { whole = w.whole; parent = Black; takes = takes-longer Red w.whole D (frame_of (high, turn) r.item Black r.far) w.parent (0 + (1 + u.height)) w.takes (may-be-black w.parent) tt (subst (λ (i : ℕ). HasBlackHeight r.far i) back parts.3) };
      may = tt;
      balanced = u.balanced;
      black_top = u.black_top;
      other_may = parts.0;
      other_balanced = parts.2;
      list = ap items (plug-snoc D (frame_of (high, turn) r.item Black r.far) V)
          ∙ items-alike _ _ _ _ mv.1 (sibling-items turn at sib low high u.item r.item u.colour Red Red Black u.tree r.near r.far ∙ ap (λ t. items (node_at turn at u.tree u.item u.colour t)) (sym r.is)) ∙ u.list;
    } in
    subst (λ (z : List (Link × Turn)). (v : Uneven m z low turn L) × IsBlackTop v.other × (v.colour ≡ Red)) (sym pushed_is) (v, parts.0, refl)

pub far-fits : (n : Nodes) (es : List (Link × Turn)) (at : Link) (turn o : Turn) (sib : Link) (L : List ℕ) → (s : Siblings n es at turn sib L) → o ≡ flip turn → Fits (live n) (node_at o sib s.far s.sibling_item Black s.near)
far-fits n es at turn o sib L s e =
    subst (λ (t : Tree). Fits (live n) t) (sym (ap (λ z. node_at z sib s.far s.sibling_item Black s.near) e ∙ node_at-flip turn sib s.far s.sibling_item Black s.near)) (sibling-fits n es at turn sib L s).1
