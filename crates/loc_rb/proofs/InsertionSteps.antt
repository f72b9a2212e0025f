-- The steps of an insertion.
use Rattle.std.proofs.Common.{◌≡◌, ℕ, List, [], ◌∷◌, ◌++◌, refl, sym, ap, ◌∙◌, subst, ◌+◌, ◌≤◌, arith, Some, None, cond, true, false, inl, inr}
use Rattle.loc_pool.specs.{declared.Link.Link, declared.Turn.Turn, declared.Turn.TheVariants.Left}
use Rattle.loc_pool.specs.{declared.Colour.Colour, declared.Colour.TheVariants.Red, declared.Colour.TheVariants.Black}
use Rattle.loc_rb.specs.Trees.{Row, Tree, leaf, node, items, Fits, Frame, node_at, plug, flip, count}
use Rattle.loc_rb.specs.Nodes.{Nodes, live, IsLive, Colours, Makes}
use Rattle.loc_rb.specs.Balance.{IsBlackTop, MayHang, black, HasBlackHeight, MayBe, Awaits}
use Rattle.loc_rb.specs.Places.{Spot, Holds, LeadsToGap}
use Rattle.loc_rb.specs.Steps.{IsRedTop, ToRotate, Replaced, RedViolation, RedPair, OuterPair, CanTransplant}
use Rattle.loc_rb.proofs.Trees.{inner, fits-end, node-row, plug-snoc, stays, count-leaf, count-node_at, items-plug}
use Rattle.loc_rb.proofs.OneChange.{pushed, popped, frame_of, has-row, SameButLinks-refl, no-frames, live-rows, is-live, none-or, in-row}
use Rattle.loc_rb.proofs.Rotations.{Beside, beside-hung, to_turn, to-rotate, turned_tree, node_at-flip, flip-flip}
use Rattle.loc_rb.proofs.{Recolouring.recolour-spot, ReadCalls.colour-is}
use Rattle.loc_rb.proofs.Balanced.{balanced-join, may-hang, may-be-black, may-be-red, red-top-node_at, black-top-node_at, RedShape, red-shape, red-parts, red-join, red-blackened, zero-black, awaits-popped, awaits-above, awaits-alike, awaits-root, awaits-cut, holds-of, taken-by}
use Rattle.loc_rb.proofs.ItemLists.{items-alike, items-under, items-turned, replaced-up, before-SameButLinks, after-SameButLinks}
use Rattle.std.specs.Prelude.{◌≢◌}
use Rattle.loc_pool.specs.Same.{same}
use Rattle.loc_pool.proofs.Same.{same-eq}

-- where the lower red node hangs on the outer side, nothing is to be done
pub pair-outer : (n : Nodes) (ps es : List (Link × Turn)) (up : Link) (side : Turn) (at : Link) (turn : Turn) (red : Link) (L : List ℕ) → ps ≡ es ++ (up, side) ∷ [] → turn ≡ side
    → (o : RedPair n es up side at turn red L) → IsBlackTop o.uncle → OuterPair n ps at L
pair-outer n ps es up side at turn red L e q o b = record {
  above = es;
  up = up;
  side = side;
  entry = e;
  frames = o.frames;
  outer = o.tree;
  item = o.item;
  inner = o.other;
  up_item = o.up_item;
  uncle = o.uncle;
  spot = subst (λ (t : Turn). Spot n es o.frames (node_at side up (node_at t at o.tree o.item Red o.other) o.up_item Black o.uncle)) q o.spot;
  height = o.height;
  awaits = o.awaits;
  outer_balanced = o.balanced;
  inner_balanced = o.other_balanced;
  inner_black = o.other_black;
  uncle_balanced = o.uncle_balanced;
  uncle_black = b;
  list = subst (λ (t : Turn). items (plug o.frames (node_at side up (node_at t at o.tree o.item Red o.other) o.up_item Black o.uncle)) ≡ L) q o.list;
}

-- the red node on the inner side is to rise over its parent
abbrev pub inner-rotation : (n : Nodes) (ps es : List (Link × Turn)) (up : Link) (side : Turn) (at : Link) (turn : Turn) (red : Link) (L : List ℕ) (qs : List (Link × Turn)) → ps ≡ es ++ (up, side) ∷ [] → qs ≡ ps ++ (at, turn) ∷ []
    → (o : RedPair n es up side at turn red L) → ToRotate n qs red
inner-rotation n ps es up side at turn red L qs e q o =
    let r = red-shape (flip turn) red o.tree o.red_top in let C = o.frames ++ frame_of (up, side) o.up_item Black o.uncle ∷ [] in
    let sp = subst (λ (t : Tree). Spot n es o.frames (node_at side up (node_at turn at t o.item Red o.other) o.up_item Black o.uncle)) r.is o.spot in
    let T = to_turn turn at red o.item r.item Red Red o.other r.near r.far in
    to-rotate n qs ps C turn at red o.item r.item Red Red o.other r.near r.far q
    (subst (λ (z : List (Link × Turn)). Spot n z C T) (sym e) (pushed n es (up, side) o.frames T o.up_item Black o.uncle sp))

-- on the inner side it has risen, and the other red node hangs on the outer side
pub pair-inner : (n m : Nodes) (ps' es : List (Link × Turn)) (up : Link) (side : Turn) (at : Link) (turn : Turn) (red low high : Link) (L : List ℕ) → turn ≡ flip side
    → (o : RedPair n es up side at turn red L) → IsBlackTop o.uncle → (r : RedShape (flip turn) red o.tree)
    → Replaced m ps' (o.frames ++ frame_of (up, side) o.up_item Black o.uncle ∷ []) (turned_tree turn low high o.item r.item Red Red o.other r.near r.far) → OuterPair m ps' high L
pair-inner n m ps' es up side at turn red low high L q o b r mv =
    let k = replaced-up _ _ _ _ _ _ _ _ _ mv in let back : flip turn ≡ side = ap flip q ∙ flip-flip side in
    let P = node_at turn low r.near o.item Red o.other in let parts = red-parts _ _ _ _ r o.balanced in
    record {
      above = k.above;
      up = k.up;
      side = side;
      entry = k.entry;
      frames = k.frames;
      outer = P;
      item = r.item;
      inner = r.far;
      up_item = o.up_item;
      uncle = o.uncle;
      spot = subst (λ (t : Turn). Spot m k.above k.frames (node_at side k.up (node_at t high P r.item Red r.far) o.up_item Black o.uncle)) back k.spot;
      height = o.height;
      awaits = awaits-alike o.frames k.frames (1 + o.height) k.alike o.awaits;
      outer_balanced = red-join turn low r.near o.item o.other o.height parts.0 o.other_black parts.2 o.other_balanced;
      inner_balanced = parts.3;
      inner_black = parts.1;
      uncle_balanced = o.uncle_balanced;
      uncle_black = b;
      list = subst (λ (t : Turn). items (plug k.frames (node_at side k.up (node_at t high P r.item Red r.far) o.up_item Black o.uncle)) ≡ L) back
          (items-alike _ _ _ _ k.alike (items-under side up k.up _ _ _ _ _ _ _ (items-turned turn at red low high o.item r.item Red Red Red Red o.other r.near r.far ∙ ap (λ t. items (node_at turn at t o.item Red o.other)) (sym r.is)) refl) ∙ o.list);
    }

-- the upper of the two red nodes is to rise over the black one
abbrev pub pair-rotation : (n : Nodes) (ps : List (Link × Turn)) (middle : Link) (L : List ℕ) → OuterPair n ps middle L → ToRotate n ps middle
pair-rotation n ps middle L s =
    to-rotate n ps s.above s.frames s.side s.up middle s.up_item s.item Black Red s.uncle s.inner s.outer s.entry
    (subst (λ (t : Tree). Spot n s.above s.frames (node_at s.side s.up t s.up_item Black s.uncle)) (sym (node_at-flip s.side middle s.inner s.item Red s.outer)) s.spot)

-- it rises, and becomes black over two red nodes: the tree is red-black
pub pair-rotated : (n m : Nodes) (ps qs : List (Link × Turn)) (middle low high : Link) (L : List ℕ) (s : OuterPair n ps middle L) → Replaced m qs s.frames (turned_tree s.side low high s.up_item s.item Red Black s.uncle s.inner s.outer) → Holds m L
pair-rotated n m ps qs middle low high L s mv =
    let low_tree = node_at s.side low s.inner s.up_item Red s.uncle in
    let low_balanced = red-join s.side low s.inner s.up_item s.uncle s.height s.inner_black s.uncle_black s.inner_balanced s.uncle_balanced in
    holds-of _ _ _ (node_at (flip s.side) high low_tree s.item Black s.outer) (1 + s.height) _ mv.2 (awaits-alike _ _ _ mv.1 s.awaits) (may-hang s.awaits.parent _ _ _ _ _ _ (may-be-black _)) (balanced-join _ _ _ _ _ _ _ tt tt low_balanced s.outer_balanced)
    (items-alike _ _ _ _ mv.1 (items-turned s.side s.up middle low high s.up_item s.item Black Red Red Black s.uncle s.inner s.outer ∙ ap (λ t. items (node_at s.side s.up t s.up_item Black s.uncle)) (node_at-flip s.side middle s.inner s.item Red s.outer)) ∙ s.list)

-- a pop leaves the list as it is
pub popped-list : (C D : List Frame) (at : Link) (turn : Turn) (t : Tree) (x : ℕ) (c : Colour) (o : Tree) (L : List ℕ) → C ≡ D ++ frame_of (at, turn) x c o ∷ [] → items (plug C t) ≡ L → items (plug D (node_at turn at t x c o)) ≡ L
popped-list C D at turn t x c o L e q = ap items (sym (plug-snoc D (frame_of (at, turn) x c o) t)) ∙ ap (λ F. items (plug F t)) (sym e) ∙ q

-- the last node of the path has a row
pub violation-live : (n : Nodes) (ps es : List (Link × Turn)) (at : Link) (turn : Turn) (red : Link) (L : List ℕ) → RedViolation n ps red L → ps ≡ es ++ (at, turn) ∷ [] → IsLive n at
violation-live n ps es at turn red L H q =
    let k = popped n ps es (at, turn) H.frames H.tree H.spot q in
    node-row (live n) turn at H.tree k.item k.colour k.other (fits-end (live n) k.front (node_at turn at H.tree k.item k.colour k.other) k.spot.fits)

-- where it is black, all is well
pub violation-under-black : (n : Nodes) (ps es : List (Link × Turn)) (at : Link) (turn : Turn) (red : Link) (L : List ℕ) → RedViolation n ps red L → ps ≡ es ++ (at, turn) ∷ [] → ((y : Row) → n.rows at ≡ Some y → Black ≡ y.colour) → Holds n L
violation-under-black n ps es at turn red L H q f =
    let k = popped n ps es (at, turn) H.frames H.tree H.spot q in let s = awaits-popped _ _ _ _ k.is H.awaits in
    let e = colour-is n turn at H.tree k.item k.colour Black k.other (fits-end _ _ _ k.spot.fits) f in
    holds-of n ps H.frames H.tree H.height L H.spot H.awaits (subst (λ (z : Colour). MayHang z H.tree) (e ∙ sym s.same) tt) H.balanced H.list

-- where it is the root, it becomes black
pub violation-under-root : (n m : Nodes) (ps es : List (Link × Turn)) (at : Link) (turn : Turn) (red : Link) (L : List ℕ) → RedViolation n ps red L → ps ≡ es ++ (at, turn) ∷ [] → es ≡ [] → Colours n m at Black → Holds m L
violation-under-root n m ps es at turn red L H q z d =
    let k = popped n ps es (at, turn) H.frames H.tree H.spot q in let s = awaits-popped _ _ _ _ k.is H.awaits in
    let T = node_at turn at H.tree k.item Black k.other in
    holds-of m es k.front T (1 + H.height) L (recolour-spot _ _ _ _ _ _ _ _ _ _ _ d k.spot) (awaits-root k.front (1 + H.height) (no-frames k.front (k.spot.path ∙ z))) (black-top-node_at _ _ _ _ _) (balanced-join _ _ _ _ _ _ _ tt tt H.balanced s.other_balanced)
    (items-alike _ _ _ _ (SameButLinks-refl k.front) (items-under turn at at _ _ _ _ _ _ _ refl refl) ∙ popped-list _ _ _ _ _ _ _ _ _ k.is H.list)

-- where it is red, the node above it is black
pub violation-pair : (n : Nodes) (ps es fs : List (Link × Turn)) (at : Link) (turn : Turn) (up : Link) (side : Turn) (red : Link) (L : List ℕ) → RedViolation n ps red L → ps ≡ es ++ (at, turn) ∷ [] → es ≡ fs ++ (up, side) ∷ []
    → ((y : Row) → n.rows at ≡ Some y → Red ≡ y.colour) → RedPair n fs up side at turn red L
violation-pair n ps es fs at turn up side red L H q r f =
    let k = popped n ps es (at, turn) H.frames H.tree H.spot q in
    let T = node_at turn at H.tree k.item k.colour k.other in
    let c1 = sym (colour-is n turn at H.tree k.item k.colour Red k.other (fits-end (live n) k.front T k.spot.fits) f) in
    let s = awaits-popped H.frames k.front (frame_of (at, turn) k.item k.colour k.other) H.height k.is H.awaits in
    let j = popped n es fs (up, side) k.front T k.spot r in
    let above = awaits-above H.awaits.whole k.front (frame_of (at, turn) k.item k.colour k.other) H.awaits.parent H.height s in let fr = frame_of (up, side) j.item j.colour j.other in
    let s2 = awaits-popped k.front j.front fr (black k.colour + H.height) j.is above in
    let c2 : j.colour ≡ Black = sym s2.same ∙ may-be-red s.parent (subst (λ (z : Colour). MayBe s.parent z) c1 s.may) in
    let e : black k.colour + H.height ≡ H.height = ap (λ z. black z + H.height) c1 ∙ zero-black H.height in
    record {
      frames = j.front;
      tree = H.tree;
      item = k.item;
      other = k.other;
      up_item = j.item;
      uncle = j.other;
      red_top = H.red_top;
      spot = subst (λ (z : Colour × Colour). Spot n fs j.front (node_at side up (node_at turn at H.tree k.item z.0 k.other) j.item z.1 j.other)) (λ i. (c1 i, c2 i)) j.spot;
      height = H.height;
      awaits = subst (λ (z : Colour × ℕ). Awaits j.front (black z.0 + z.1)) (λ i. (c2 i, e i)) (awaits-above H.awaits.whole j.front fr s.parent (black k.colour + H.height) s2);
      balanced = H.balanced;
      other_balanced = s.other_balanced;
      other_black = subst (λ (z : Colour). MayHang z k.other) c1 s.other_may;
      uncle_balanced = subst (λ (z : ℕ). HasBlackHeight j.other z) e s2.other_balanced;
      list = subst (λ (z : Colour × Colour). items (plug j.front (node_at side up (node_at turn at H.tree k.item z.0 k.other) j.item z.1 j.other)) ≡ L) (λ i. (c1 i, c2 i))
          (popped-list k.front j.front up side T j.item j.colour j.other L j.is (popped-list H.frames k.front at turn H.tree k.item k.colour k.other L k.is H.list));
    }

pub red-top-live : (n : Nodes) (l : Link) (t : Tree) → IsRedTop l t → Fits (live n) t → IsLive n l
red-top-live n l t r p = let k = red-shape Left l t r in node-row (live n) Left l k.near k.item Red k.far (subst (λ (z : Tree). Fits (live n) z) k.is p)

-- the three nodes have rows
pub pair-live : (n : Nodes) (es : List (Link × Turn)) (up : Link) (side : Turn) (at : Link) (turn : Turn) (red : Link) (L : List ℕ) (uncle : Link) → (o : RedPair n es up side at turn red L) → IsRedTop uncle o.uncle → IsLive n up × IsLive n at × IsLive n uncle
pair-live n es up side at turn red L uncle o t =
    let X = node_at turn at o.tree o.item Red o.other in
    let p = fits-end (live n) o.frames (node_at side up X o.up_item Black o.uncle) o.spot.fits in
    let q = inner (live n) side up X o.up_item Black o.uncle p in
    (node-row (live n) side up X o.up_item Black o.uncle p, node-row (live n) turn at o.tree o.item Red o.other q.0, red-top-live n uncle o.uncle t q.1)

pub pair-uncle-spot : (n : Nodes) (es : List (Link × Turn)) (up : Link) (side : Turn) (at : Link) (turn : Turn) (red : Link) (L : List ℕ) (uncle : Link) → (o : RedPair n es up side at turn red L) → (r : RedShape Left uncle o.uncle)
    → Spot n es o.frames (node_at side up (node_at turn at o.tree o.item Red o.other) o.up_item Black (node uncle r.near r.item Red r.far))
pair-uncle-spot n es up side at turn red L uncle o r = subst (λ (z : Tree). Spot n es o.frames (node_at side up (node_at turn at o.tree o.item Red o.other) o.up_item Black z)) r.is o.spot

-- where the uncle is red, the black passes down, and `up` is red
pub violation-moved-up : (n m : Nodes) (es : List (Link × Turn)) (up : Link) (side : Turn) (at : Link) (turn : Turn) (red : Link) (L : List ℕ) (uncle : Link) → (o : RedPair n es up side at turn red L) → (r : RedShape Left uncle o.uncle)
    → Spot m es o.frames (node_at side up (node_at turn at o.tree o.item Black o.other) o.up_item Red (node uncle r.near r.item Black r.far)) → RedViolation m es up L
violation-moved-up n m es up side at turn red L uncle o r sp =
    let X = node_at turn at o.tree o.item Black o.other in let U = node uncle r.near r.item Black r.far in
    let blackened = red-blackened Left uncle o.uncle o.height r o.uncle_balanced in
    record {
      frames = o.frames;
      tree = node_at side up X o.up_item Red U;
      red_top = red-top-node_at side up X o.up_item U;
      spot = sp;
      height = 1 + o.height;
      awaits = o.awaits;
      balanced = red-join side up X o.up_item U (1 + o.height) (black-top-node_at turn at o.tree o.item o.other) tt (balanced-join turn at o.tree o.item Black o.other o.height tt tt o.balanced o.other_balanced) blackened;
      list = items-alike o.frames o.frames (node_at side up (node_at turn at o.tree o.item Red o.other) o.up_item Black o.uncle) (node_at side up X o.up_item Red U) (SameButLinks-refl o.frames)
          (items-under side up up (node_at turn at o.tree o.item Red o.other) X o.up_item Black Red o.uncle U (items-under turn at at o.tree o.tree o.item Red Black o.other o.other refl refl) (ap items (sym r.is))) ∙ o.list;
    }

pub red-live : (n : Nodes) (ps : List (Link × Turn)) (red : Link) (L : List ℕ) → RedViolation n ps red L → IsLive n red
red-live n ps red L H = red-top-live n red H.tree H.red_top (fits-end (live n) H.frames H.tree H.spot.fits)

-- where the red node is the root, it becomes black
pub violation-at-root : (n m : Nodes) (ps : List (Link × Turn)) (red : Link) (L : List ℕ) → RedViolation n ps red L → ps ≡ [] → Colours n m red Black → Holds m L
violation-at-root n m ps red L H z d =
    let r = red-shape Left red H.tree H.red_top in
    holds-of m ps H.frames (node red r.near r.item Black r.far) (1 + H.height) L (recolour-spot n m ps H.frames Left red r.near r.item Red Black r.far d (subst (λ (t : Tree). Spot n ps H.frames t) r.is H.spot))
    (awaits-root H.frames (1 + H.height) (no-frames H.frames (H.spot.path ∙ z))) tt (red-blackened _ _ _ _ r H.balanced) (items-alike _ _ _ _ (SameButLinks-refl H.frames) (ap items (sym r.is)) ∙ H.list)

-- what the test of the uncle asks for
pub uncle-fits : (n : Nodes) (es : List (Link × Turn)) (up : Link) (side : Turn) (at : Link) (turn : Turn) (red : Link) (L : List ℕ) (s : Turn) → (o : RedPair n es up side at turn red L) → s ≡ flip side → Fits (live n) (node_at s up o.uncle o.up_item Black (node_at turn at o.tree o.item Red o.other))
uncle-fits n es up side at turn red L s o e =
    let X = node_at turn at o.tree o.item Red o.other in
    subst (λ (t : Tree). Fits (live n) t) (sym (ap (λ z. node_at z up o.uncle o.up_item Black X) e ∙ node_at-flip side up o.uncle o.up_item Black X)) (fits-end _ _ _ o.spot.fits)

-- two pops and a test of the uncle lead to the pair, with what the test tells
pub uncle-tested : (P : Tree → Type 0) (n : Nodes) (ps es fs : List (Link × Turn)) (at : Link) (turn : Turn) (up : Link) (side : Turn) (red : Link) (L : List ℕ) (s : Turn) → RedViolation n ps red L → ps ≡ es ++ (at, turn) ∷ [] → es ≡ fs ++ (up, side) ∷ []
    → ((y : Row) → n.rows at ≡ Some y → Red ≡ y.colour) → s ≡ flip side → ((t : Tree) (x : ℕ) (c : Colour) (other : Tree) → Fits (live n) (node_at s up t x c other) → P t) → (o : RedPair n fs up side at turn red L) × P o.uncle
uncle-tested P n ps es fs at turn up side red L s H q r f e test =
    let o = violation-pair n ps es fs at turn up side red L H q r f in (o, test o.uncle o.up_item Black (node_at turn at o.tree o.item Red o.other) (uncle-fits n fs up side at turn red L s o e))

-- a new link stands nowhere in a tree
pub new-nowhere : (n : Nodes) (new : Link) (t : Tree) → n.rows new ≡ None → Fits (live n) t → count new t ≡ 0
new-nowhere n new t f p = elim (none-or (count new t)) as (λ _. count new t ≡ 0) [
  | inl z ↦ z
  | inr z ↦ let r = has-row n new (in-row (live n) new t p z) in let q : None ≡ Some r.0 = sym f ∙ r.1 in cc
]

-- a new node stands beside the tree
pub new-beside : (n m : Nodes) (item : ℕ) (c : Colour) (new : Link) (es : List (Link × Turn)) (C : List Frame) (t : Tree) → Makes n m item c new → Spot n es C t → Beside m es C t new (node new leaf item c leaf) leaf
new-beside n m item c new es C t d sp = record {
  spot = record { path = sp.path; fits = stays (live n) (live m) (plug C t) (λ l _ y e. let p = live-rows n l y e in let o : l ≢ new = λ q. (let r : None ≡ Some y = sym d.fresh ∙ ap n.rows (sym q) ∙ p.0 in cc) in is-live m l y (d.others l o ∙ p.0) (d.others_current l o ∙ p.1)) sp.fits; apart = sp.apart; root = d.root ∙ sp.root };
  fits = (is-live m new _ d.here d.current, tt, tt);
  more_fits = tt;
  apart = λ l. let k = count-leaf l in (elim (same new l) as (λ b. same new l ≡ b → cond b 1 0 + (count l (plug C t) + count l leaf) ≤ 1) [
    | true ↦ λ e. let z = subst (λ (i : Link). count i (plug C t) ≡ 0) (same-eq new l e) (new-nowhere n new (plug C t) d.fresh sp.fits) in omega (arith, z, k)
    | false ↦ λ e. let a = sp.apart l in omega (arith, a, k)
  ]) refl;
}

-- the new node can hang at the gap
pub can-insert : (n m : Nodes) (item : ℕ) (new : Link) (es : List (Link × Turn)) (L H : List ℕ) → Makes n m item Red new → (p : LeadsToGap n es L H) → CanTransplant m es p.frames leaf (node new leaf item Red leaf) (Some new)
can-insert n m item new es L H d p =
    beside-hung m es p.frames leaf new (node new leaf item Red leaf) leaf (new-beside n m item Red new es p.frames leaf d p.spot) (λ l. let i = count-node_at l Left new leaf item Red leaf in omega (arith, i)) refl

-- the new red node hangs at the gap: only it may hang under a red one
pub inserted : (n m : Nodes) (item : ℕ) (new : Link) (es ps : List (Link × Turn)) (L H : List ℕ) (p : LeadsToGap n es L H) → Replaced m ps p.frames (node new leaf item Red leaf) → RedViolation m ps new (L ++ item ∷ H)
inserted n m item new es ps L H p mv =
    let t = taken-by Red p.balanced.1.0 p.frames leaf p.balanced.0 p.balanced.1.1 in
    record {
      frames = mv.0;
      tree = node new leaf item Red leaf;
      red_top = refl;
      spot = mv.2;
      height = t.height;
      awaits = awaits-alike p.frames mv.0 t.height mv.1 (awaits-cut p.frames leaf p.balanced t);
      balanced = (tt, tt, (t.height, sym (zero-black t.height), t.balanced, t.balanced));
      list = items-plug mv.0 (node new leaf item Red leaf) ∙ (λ i. (before-SameButLinks p.frames mv.0 mv.1 ∙ p.low) i ++ item ∷ (after-SameButLinks p.frames mv.0 mv.1 ∙ p.high) i);
    }
