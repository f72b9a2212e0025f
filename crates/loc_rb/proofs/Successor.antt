-- The next item takes the place of one that is taken out.
use Rattle.std.proofs.Common.{◌≡◌, ℕ, List, [], ◌∷◌, ◌++◌, refl, sym, ap, ◌∙◌, subst, ◌+◌, ◌^◌, ◌≤◌, ◌<◌, ◌*◌, arith, Some, inl, append_assoc, append-nil, length, length-append, take, Option}
use Rattle.std.proofs.{lemmas.List.take_at, Math.Pow.pow_mono}
use Rattle.loc_rb.proofs.{ReadCalls.child-is, ReadCalls.node-has-row, Trees.fits-end, Trees.plug-snoc, Trees.items-plug}
use Rattle.loc_pool.specs.{declared.Link.Link, declared.Turn.Turn}
use Rattle.loc_pool.specs.{declared.Turn.TheVariants.Left, declared.Turn.TheVariants.Right, declared.Colour.Colour}
use Rattle.loc_pool.specs.declared.Colour.TheVariants.{Red}
use Rattle.loc_rb.specs.Trees.{Row, Tree, leaf, node, top, items, Fits, Frame, plug, entries, child_of, before, after}
use Rattle.loc_rb.specs.{Nodes.Nodes, Nodes.live, Nodes.HasRow, Balance.IsRedBlack, Balance.depth}
use Rattle.loc_rb.specs.Places.{Spot, LeadsTo, LeadsToGap}
use Rattle.loc_rb.specs.Steps.{MissesChild, NodeAt, LeftmostPath, ToSpliceOut, Replaced}
use Rattle.loc_rb.proofs.OneChange.{pushed, frame_of, live-rows}
use Rattle.loc_rb.proofs.Balanced.{taken-by, takes-plug, takes-SameButLinks, may-be, may-hang}
use Rattle.loc_rb.proofs.ItemLists.{before-SameButLinks, after-SameButLinks}
use Rattle.loc_rb.proofs.Descent.{at-most-42, bounded, depth-plug, before-right, after-right}

-- how many items a tree has, by a place in it
leads-size : (n : Nodes) (es : List (Link × Turn)) (at : Link) (L : List ℕ) (x : ℕ) (H : List ℕ) → (p : LeadsTo n es at L x H) → length (items (plug p.frames (node at p.left x p.colour p.right))) ≡ length L + length H + 1
leads-size n es at L x H p =
    let T = node at p.left x p.colour p.right in
    let a = ap length (items-plug p.frames T) in let b = length-append (before p.frames) (items T ++ after p.frames) in let c = length-append (items T) (after p.frames) in let d = length-append (items p.left) (x ∷ items p.right) in
    let e = ap length p.low in let f = length-append (before p.frames) (items p.left) in let i = ap length p.high in let j = length-append (items p.right) (after p.frames) in omega (arith, a, b, c, d, e, f, i, j)

-- with fewer than 2 ^ 21 other items the path and the tree at its end have at most 42 nodes
pub leads-short : (n : Nodes) (es : List (Link × Turn)) (at : Link) (L : List ℕ) (x : ℕ) (H : List ℕ) → (p : LeadsTo n es at L x H) → length L + length H < 2 ^ 21 → length es + depth (node at p.left x p.colour p.right) ≤ 42
leads-short n es at L x H p h =
    let T = node at p.left x p.colour p.right in let s = leads-size n es at L x H p in let d = depth-plug p.frames T in let q = ap length p.spot.path in
    let k = at-most-42 (plug p.frames T) p.balanced (omega (arith, s, h)) in omega (arith, k, d, q)

-- the bound on a path in a tree that has k - 1 items
path-bounded : (C : List Frame) (t : Tree) (i k : ℕ) → IsRedBlack (plug C t) → length (items (plug C t)) + 1 ≡ k → i ≤ length (entries C) + depth t → 2 ^ i ≤ k * k
path-bounded C t i k b e h =
    let T = plug C t in let d = depth-plug C t in let w : 2 ^ i ≤ 2 ^ depth T = pow_mono (omega (arith, h, d)) in let c = subst (λ (j : ℕ). 2 ^ depth T ≤ j * j) e (bounded T b) in omega (arith, w, c)

-- the bound on paths for a place, and for a gap
pub leads-bounded : (n : Nodes) (es : List (Link × Turn)) (at : Link) (L : List ℕ) (x : ℕ) (H : List ℕ) → LeadsTo n es at L x H → 2 ^ (length es + 1) ≤ (length L + length H + 2) * (length L + length H + 2)
leads-bounded n es at L x H p =
    let s = leads-size n es at L x H p in let q = ap length p.spot.path in
    path-bounded p.frames (node at p.left x p.colour p.right) (length es + 1) (length L + length H + 2) p.balanced (omega (arith, s)) (omega (arith, q))

pub gap-bounded : (n : Nodes) (es : List (Link × Turn)) (L H : List ℕ) → LeadsToGap n es L H → 2 ^ length es ≤ (length L + length H + 1) * (length L + length H + 1)
gap-bounded n es L H p =
    let a = ap length (items-plug p.frames leaf) in let b = length-append (before p.frames) (after p.frames) in let l = ap length p.low in let h = ap length p.high in let q = ap length p.spot.path in
    path-bounded p.frames leaf (length es) (length L + length H + 1) p.balanced (omega (arith, a, b, l, h)) (omega (arith, q))

-- the path to the right child
abbrev pub right_frames : List Frame → Link → ℕ → Colour → Tree → List Frame
right_frames C at x c a = C ++ frame_of (at, Right) x c a ∷ []

pub right-spot : (n : Nodes) (ps es : List (Link × Turn)) (C : List Frame) (at : Link) (a : Tree) (x : ℕ) (c : Colour) (b : Tree) → Spot n es C (node at a x c b) → ps ≡ es ++ (at, Right) ∷ [] → Spot n ps (right_frames C at x c a) b
right-spot n ps es C at a x c b sp q = subst (λ (z : List (Link × Turn)). Spot n z (right_frames C at x c a) b) (sym q) (pushed n es (at, Right) C b x c a sp)

-- where the search of the right child's first node begins
pub right-start : (n : Nodes) (es ps : List (Link × Turn)) (at right : Link) (L : List ℕ) (x : ℕ) (H : List ℕ) (answer : Option Link) → (p : LeadsTo n es at L x H) → ((y : Row) → n.rows at ≡ Some y → answer ≡ child_of Right y) → answer ≡ Some right
    → ps ≡ es ++ (at, Right) ∷ [] → Spot n ps (right_frames p.frames at x p.colour p.left) p.right × (top p.right ≡ Some right)
right-start n es ps at right L x H answer p h e q =
    let f = fits-end (live n) p.frames (node at p.left x p.colour p.right) p.spot.fits in
    (right-spot n ps es p.frames at p.left x p.colour p.right p.spot q, sym (child-is n Right at p.right x p.colour p.left answer f h) ∙ e)

pub leads-row : (n : Nodes) (es : List (Link × Turn)) (at : Link) (L : List ℕ) (x : ℕ) (H : List ℕ) → LeadsTo n es at L x H → HasRow n at
leads-row n es at L x H p = node-has-row n Left at p.left x p.colour p.right (fits-end (live n) p.frames (node at p.left x p.colour p.right) p.spot.fits)

-- a path that is cut to its old length is what it was
pub cut-back : (es ps qs ts : List (Link × Turn)) (e : Link × Turn) (k : ℕ) → ps ≡ es ++ e ∷ [] → (rs : List (Link × Turn)) × (qs ≡ ps ++ rs) → ts ≡ take k qs → k ≡ length es → ts ≡ es
cut-back es ps qs ts e k p q t l = t ∙ ap (λ z. take k z) (q.1 ∙ ap (λ z. z ++ q.0) p ∙ append_assoc es (e ∷ []) q.0) ∙ take_at es (e ∷ q.0) k (sym l)

-- the node whose item is to be exchanged, after that
abbrev pub back-node : (n : Nodes) (es ts : List (Link × Turn)) (at : Link) (L : List ℕ) (x : ℕ) (H : List ℕ) → LeadsTo n es at L x H → ts ≡ es → NodeAt n ts at
back-node n es ts at L x H p e = record {
  frames = p.frames;
  left = p.left;
  item = x;
  colour = p.colour;
  right = p.right;
  spot = subst (λ (z : List (Link × Turn)). Spot n z p.frames (node at p.left x p.colour p.right)) (sym e) p.spot;
}

pub right-short : (n : Nodes) (es : List (Link × Turn)) (at : Link) (L : List ℕ) (x : ℕ) (H : List ℕ) → (p : LeadsTo n es at L x H) → length L + length H < 2 ^ 21 → (length es + 1) + depth p.right ≤ 43
right-short n es at L x H p h = let s = leads-short n es at L x H p h in omega (arith, s)

-- the search of the next item ends at a node that has it
pub next-found : (n : Nodes) (es ps qs : List (Link × Turn)) (at right next : Link) (L : List ℕ) (x : ℕ) (H : List ℕ) (answer : Option Link) → (p : LeadsTo n es at L x H) → ((y : Row) → n.rows at ≡ Some y → answer ≡ child_of Right y) → answer ≡ Some right
    → ps ≡ es ++ (at, Right) ∷ []
    → ((C : List Frame) (t : Tree) → Spot n ps C t → top t ≡ Some right → (d : LeftmostPath n qs C t next) × (v : ℕ) × (c : Colour) × (w : Tree) × (d.tree ≡ node next leaf v c w))
    → (d : LeftmostPath n qs (right_frames p.frames at x p.colour p.left) p.right next) × (v : ℕ) × (c : Colour) × (w : Tree) × (d.tree ≡ node next leaf v c w) × (y : Row) × (n.rows next ≡ Some y) × (y.item ≡ v)
next-found n es ps qs at right next L x H answer p h e q found =
    let C = right_frames p.frames at x p.colour p.left in let w = right-start n es ps at right L x H answer p h e q in let d = found C p.right w.0 w.1 in
    let f = subst (λ (z : Tree). Fits (live n) z) d.4 (fits-end (live n) d.0.frames d.0.tree d.0.spot.fits) in (d.0, d.1, d.2, d.3, d.4, _, (live-rows n next _ f.0).0, refl)

-- with the next item in the place, the node that had it is to be cut out
pub successor-put : (n m : Nodes) (es ps fs qs : List (Link × Turn)) (at at' next last : Link) (L : List ℕ) (x item : ℕ) (H : List ℕ) → (p : LeadsTo n es at L x H) → (mv : Replaced m fs p.frames (node at' p.left item p.colour p.right))
    → (d : LeftmostPath n ps (right_frames p.frames at x p.colour p.left) p.right next) → (v : ℕ) (c : Colour) (w : Tree) → d.tree ≡ node next leaf v c w → item ≡ v
    → (d' : LeftmostPath m qs (right_frames mv.0 at' item p.colour p.left) p.right last) → (v' : ℕ) (c' : Colour) (w' : Tree) → d'.tree ≡ node last leaf v' c' w' → ToSpliceOut m qs last (L ++ H)
successor-put n m es ps fs qs at at' next last L x item H p mv d v c w e iv d' v' c' w' e' =
    let D = mv.0 in let bf = before p.frames in let il = items p.left in
    let remaining = items w ++ after d.frames in
    let h1 : item ∷ remaining ≡ H = (λ i. iv i ∷ remaining) ∙ ap (λ t. items t ++ after d.frames) (sym e) ∙ d.high ∙ ap (λ z. items p.right ++ z) (after-right p.frames at x p.colour p.left) ∙ p.high in
    let h2 : v' ∷ (items w' ++ after d'.frames) ≡ H = ap (λ t. items t ++ after d'.frames) (sym e') ∙ d'.high ∙ ap (λ z. items p.right ++ z) (after-right D at' item p.colour p.left ∙ after-SameButLinks p.frames D mv.1) ∙ p.high in
    let both : v' ∷ (items w' ++ after d'.frames) ≡ item ∷ remaining = h2 ∙ sym h1 in let tail : items w' ++ after d'.frames ≡ remaining = cc in
    let low : before d'.frames ≡ bf ++ (il ++ item ∷ []) = d'.low ∙ before-right D at' item p.colour p.left ∙ ap (λ z. z ++ (il ++ item ∷ [])) (before-SameButLinks p.frames D mv.1) in
    let t = taken-by Red p.balanced.1.0 p.frames (node at p.left x p.colour p.right) p.balanced.0 p.balanced.1.1 in
    let shape = takes-plug Red p.balanced.1.0 D t.parent t.height (node at' p.left item p.colour p.right) (takes-SameButLinks p.frames D mv.1 Red p.balanced.1.0 t.parent t.height t.takes) (may-hang t.parent Left at' p.left item p.colour p.right (may-be t.parent Left at p.left x p.colour p.right t.may)) t.balanced in
    let whole : plug d'.frames (node last leaf v' c' w') ≡ plug D (node at' p.left item p.colour p.right) = ap (plug d'.frames) (sym e') ∙ d'.same ∙ plug-snoc D (frame_of (at', Right) item p.colour p.left) p.right in
    record {
      low = before d'.frames ++ [];
      item = v';
      high = items w' ++ after d'.frames;
      place = record { frames = d'.frames; left = leaf; colour = c'; right = w'; spot = subst (λ (t : Tree). Spot m qs d'.frames t) e' d'.spot; balanced = subst (λ (t : Tree). IsRedBlack t) (sym whole) (shape.0, (p.balanced.1.0, shape.1)); low = refl; high = refl };
      spare = inl refl;
      list = (λ i. append-nil (before d'.frames) i ++ tail i) ∙ ap (λ z. z ++ remaining) low ∙ append_assoc bf (il ++ item ∷ []) remaining ∙ ap (λ z. bf ++ z) (append_assoc il (item ∷ []) remaining) ∙ sym (append_assoc bf il (item ∷ remaining)) ∙ (λ i. p.low i ++ h1 i);
    }

-- a node of which a child is missing
pub one-child : (n : Nodes) (es : List (Link × Turn)) (at : Link) (L : List ℕ) (x : ℕ) (H : List ℕ) → (p : LeadsTo n es at L x H) → MissesChild p.left p.right → ToSpliceOut n es at (L ++ H)
one-child n es at L x H p s = record { low = L; item = x; high = H; place = p; spare = s; list = refl }

-- the path to the node that is to be cut out is short
pub splice-short : (n : Nodes) (es : List (Link × Turn)) (at : Link) (K L H : List ℕ) → (q : ToSpliceOut n es at K) → K ≡ L ++ H → length L + length H < 2 ^ 21 → length es ≤ 42
splice-short n es at K L H q e h =
    let a = ap length (q.list ∙ e) in let b = length-append q.low q.high in let c = length-append L H in
    let s = leads-short n es at q.low q.item q.high q.place (omega (arith, a, b, c, h)) in omega (arith, s)
