-- A rotation: the child takes the node, and the node the child's inner tree.
use Rattle.std.proofs.Common.{◌≡◌, ℕ, List, [], ◌∷◌, ◌++◌, refl, sym, ap, ◌∙◌, subst, Option, Some, ◌+◌, ◌≤◌, cond, arith, inl, inr}
use Rattle.std.specs.Prelude.{◌≢◌}
use Rattle.std.proofs.lemmas.List.{same_from_push}
use Rattle.std.specs.List.{AllByRecursion}
use Rattle.loc_pool.specs.{declared.Link.Link, declared.Turn.Turn}
use Rattle.loc_pool.specs.{declared.Turn.TheVariants.Left, declared.Turn.TheVariants.Right, declared.Colour.Colour}
use Rattle.loc_pool.specs.Same.{same}
use Rattle.loc_pool.proofs.Same.{same-refl}
use Rattle.loc_rb.specs.Trees.{Row, Tree, leaf, node, top, Fits, Frame, node_at, plug, entries, links_of, SameButLinks, count, flip, child_of}
use Rattle.loc_rb.specs.Nodes.{Nodes, live, IsLive, CanChange, Changes}
use Rattle.loc_rb.specs.{Places.Spot, Steps.CanTransplant, Steps.ToRotate, Steps.Replaced}
use Rattle.loc_rb.proofs.Trees.{change-tree, stays, fits-end, inner, top-node_at, node-row, occurs, sides, self-once, count-node_at, count-plug, count-at, absent}
use Rattle.loc_rb.proofs.ReadCalls.{child-is}
use Rattle.loc_rb.proofs.OneChange.{child-replaced, can-change, SameButLinks-trans, top-live, apart-new, in-row, others-live, sides-SameButLinks, either-one}

-- a node turns round
pub node_at-flip : (turn : Turn) (l : Link) (t : Tree) (x : ℕ) (c : Colour) (other : Tree) → node_at (flip turn) l t x c other ≡ node_at turn l other x c t
node_at-flip Left l t x c other = refl
node_at-flip Right l t x c other = refl

pub flip-flip : (turn : Turn) → flip (flip turn) ≡ turn
flip-flip Left = refl
flip-flip Right = refl

-- the tree stands as before, and beside it another one, whose top r hangs under no node, and which may share trees with it but for `more`
pub record Beside (n : Nodes) (es : List (Link × Turn)) (C : List Frame) (t : Tree) (r : Link) (u more : Tree) : Type 0 where
  pub spot : Spot n es C t
  pub fits : Fits (live n) u
  pub more_fits : Fits (live n) more
  pub apart : (l : Link) → cond (same r l) 1 0 + (count l (plug C t) + count l more) ≤ 1

top-counts : (l : Link) (t : Tree) → top t ≡ Some l → 1 ≤ count l t
unfolding count
top-counts l leaf e = cc
top-counts l (node m a x c b) e = let q : m ≡ l = cc in let z : ◌≡◌ {A = ℕ} (cond (same m l) 1 0) 1 = ap (λ i. cond (same i l) 1 0) q ∙ ap (λ i. cond i 1 0) (same-refl l) in omega (arith, z)

not-root : (n : Nodes) (es : List (Link × Turn)) (C : List Frame) (t : Tree) (l : Link) (u more : Tree) → Beside n es C t l u more → AllByRecursion (λ k. n.root ≢ Some k) (l ∷ [])
not-root n es C t l u more h =
    ((λ e. let o = top-counts l (plug C t) (sym h.spot.root ∙ e) in let a = h.apart l in let s = self-once l (count l (plug C t) + count l more) in let q : ⊥ = omega (arith, o, a, s) in q), tt)

-- its top can be changed
pub can-change-beside : (n : Nodes) (es none : List (Link × Turn)) (C : List Frame) (t : Tree) (l : Link) (turn : Turn) (s v : Tree) (x : ℕ) (c : Colour) (other more : Tree) (o : Option Link)
    → Beside n es C t l (node_at turn l s x c other) more → Fits (live n) v → o ≡ top v → none ≡ [] → CanChange n none l o
can-change-beside n es none C t l turn s v x c other more o h fv e z = subst (λ (i : List (Link × Turn)). CanChange n i l o) (sym z) (record {
  leads = node-row (live n) turn l s x c other h.fits;
  once = (tt, tt);
  from = inr (not-root n es C t l (node_at turn l s x c other) more h);
  to = top-live n v o fv e;
})

-- and the change leaves the tree as it is
pub beside-changed : (n m : Nodes) (es none es' : List (Link × Turn)) (C : List Frame) (t : Tree) (l r : Link) (turn : Turn) (s v : Tree) (x : ℕ) (c : Colour) (other more : Tree) (o : Option Link)
    → Beside n es C t l (node_at turn l s x c other) more → Fits (live n) v → count l v + count l other ≡ 0 → o ≡ top v → none ≡ [] → Changes n m none es' l r turn o
    → Beside m es C t r (node_at turn r v x c other) more
unfolding occurs sides
beside-changed n m es none es' C t l r turn s v x c other more o h fv zero_there e z given =
    let ch : Changes n m [] es' l r turn (top v) = subst (λ (i : List (Link × Turn) × Option Link). Changes n m i.0 es' l r turn i.1) (λ i. (z i, e i)) given in
    let R : Link → ℕ = λ k. count k (plug C t) + count k more in
    let a : R l ≡ 0 = (let a = h.apart l in let s = self-once l (count l (plug C t) + count l more) in omega (arith, a, s)) in
    let kept : (P : Link → ℕ) → P l ≡ 0 → (k : Link) → 1 ≤ P k → (y : Row) → live n k ≡ Some y → live m k ≡ Some y = λ P i k j.
    others-live n m [] es' l r turn (top v) ch k ((λ q. let w = ap P q in let f : ⊥ = omega (arith, i, j, w) in f), tt) in
    let A = apart-new n m [] es' l r turn (top v) R ch (λ k j. elim (either-one (count k (plug C t)) (count k more) j) as (λ _. IsLive n k) [ inl i ↦ in-row (live n) k (plug C t) h.spot.fits i | inr i ↦ in-row (live n) k more h.more_fits i ])
    (λ k. let b = h.apart k in let f : (cond (same l k) 1 0 + 0) + (count k (plug C t) + count k more) ≤ 1 = omega (arith, b) in f) in
    record {
      spot = record { path = h.spot.path; fits = stays (live n) (live m) (plug C t) (kept (λ k. count k (plug C t)) (omega (arith, a))) h.spot.fits; apart = h.spot.apart; root = ch.rows.other_root (not-root n es C t l (node_at turn l s x c other) more h) ∙ h.spot.root };
      fits = (change-tree (live n) (live m) [] es' l r turn x c other s v ch.rows.here ch.rows.above (kept (λ k. 0 + (count k v + count k other)) (omega (arith, zero_there))) h.fits fv).0;
      more_fits = stays (live n) (live m) more (kept (λ k. count k more) (omega (arith, a))) h.more_fits;
      apart = λ k. let b : (cond (same r k) 1 0 + occurs k (links_of es')) + (count k (plug C t) + count k more) ≤ 1 = A k in omega (arith, b);
    }

-- then it can take the place of what hangs at the end of the path
pub beside-hung : (n : Nodes) (es : List (Link × Turn)) (C : List Frame) (t : Tree) (r : Link) (u more : Tree) → Beside n es C t r u more → ((l : Link) → count l u ≤ cond (same r l) 1 0 + (count l t + count l more)) → top u ≡ Some r → CanTransplant n es C t u (Some r)
beside-hung n es C t r u more h fewer e = record {
  spot = h.spot;
  fits = h.fits;
  apart = λ l. let i = count-plug l C t in let j = count-plug l C u in let a = h.apart l in let f = fewer l in omega (arith, i, j, a, f);
  to = sym e;
}

-- the tree that a rotation is to turn
abbrev pub to_turn : Turn → Link → Link → ℕ → ℕ → Colour → Colour → Tree → Tree → Tree → Tree
to_turn turn at child x y cx cy a b d = node_at turn at (node_at (flip turn) child b y cy d) x cx a

-- the tree that it leads to
abbrev pub turned_tree : Turn → Link → Link → ℕ → ℕ → Colour → Colour → Tree → Tree → Tree → Tree
turned_tree turn low high x y cx cy a b d = node_at (flip turn) high (node_at turn low b x cx a) y cy d

-- what a rotation asks for, by that tree
abbrev pub to-rotate : (n : Nodes) (ps es : List (Link × Turn)) (C : List Frame) (turn : Turn) (at child : Link) (x y : ℕ) (cx cy : Colour) (a b d : Tree) → ps ≡ es ++ (at, turn) ∷ [] → Spot n es C (to_turn turn at child x y cx cy a b d) → ToRotate n ps child
to-rotate n ps es C turn at child x y cx cy a b d q sp = record {
  above = es;
  at = at;
  turn = turn;
  entry = q;
  frames = C;
  outer = a;
  item = x;
  colour = cx;
  inner = b;
  child_item = y;
  child_colour = cy;
  far = d;
  spot = sp;
}

-- the same rotation, by the entry that was popped
abbrev pub popped-rotation : (n : Nodes) (ps es : List (Link × Turn)) (e : Link × Turn) (child : Link) → ToRotate n ps child → ps ≡ es ++ e ∷ [] → ToRotate n ps child
popped-rotation n ps es e child r q =
    to-rotate n ps es r.frames e.1 e.0 child r.item r.child_item r.colour r.child_colour r.outer r.inner r.far q
    (let k = same_from_push r.above es (r.at, r.turn) e (sym r.entry ∙ q) in
    subst (λ (z : List (Link × Turn) × Link × Turn). Spot n z.0 r.frames (to_turn z.2 z.1 child r.item r.child_item r.colour r.child_colour r.outer r.inner r.far)) (λ i. (k.0 i, (k.1 i).0, (k.1 i).1)) r.spot)

-- the trees of the child, which stand
pub child-fits : (n : Nodes) (ps : List (Link × Turn)) (child : Link) (r : ToRotate n ps child) → Fits (live n) (node_at (flip r.turn) child r.inner r.child_item r.child_colour r.far)
child-fits n ps child r =
    (inner (live n) r.turn r.at (node_at (flip r.turn) child r.inner r.child_item r.child_colour r.far) r.item r.colour r.outer (fits-end (live n) r.frames (to_turn r.turn r.at child r.item r.child_item r.colour r.child_colour r.outer r.inner r.far) r.spot.fits)).0

-- the child of the child that goes over to the other node
pub inner-is : (n : Nodes) (ps : List (Link × Turn)) (child : Link) (r : ToRotate n ps child) (side : Turn) (o : Option Link) → side ≡ flip r.turn
    → ((row : Row) → n.rows child ≡ Some row → o ≡ child_of side row) → o ≡ top r.inner
inner-is n ps child r side o s h =
    child-is n (flip r.turn) child r.inner r.child_item r.child_colour r.far o (child-fits n ps child r) (subst (λ (t : Turn). (row : Row) → n.rows child ≡ Some row → o ≡ child_of t row) s h)

-- what the first change asks for
pub can-lower : (n : Nodes) (ps : List (Link × Turn)) (child : Link) (r : ToRotate n ps child) (o : Option Link) → o ≡ top r.inner → CanChange n r.above r.at o
can-lower n ps child r o e =
    can-change n r.above r.frames r.turn r.at (node_at (flip r.turn) child r.inner r.child_item r.child_colour r.far) r.item r.colour r.outer o r.spot
    (top-live n r.inner o (inner (live n) (flip r.turn) child r.inner r.child_item r.child_colour r.far (child-fits n ps child r)).0 e)

-- after the first change: the node has the inner tree, and the child stands beside
pub record Lowered (m n : Nodes) (ps : List (Link × Turn)) (child : Link) (r : ToRotate n ps child) (es : List (Link × Turn)) (low : Link) : Type 0 where
  pub frames : List Frame
  pub alike : SameButLinks r.frames frames
  pub beside : Beside m es frames (node_at r.turn low r.inner r.item r.colour r.outer) child (node_at (flip r.turn) child r.inner r.child_item r.child_colour r.far) r.far

pub lowered : (n m : Nodes) (ps es : List (Link × Turn)) (child low : Link) (r : ToRotate n ps child) (o : Option Link) → o ≡ top r.inner → Changes n m r.above es r.at low r.turn o → Lowered m n ps child r es low
lowered n m ps es child low r o e ch =
    let C = r.frames in let Y = node_at (flip r.turn) child r.inner r.child_item r.child_colour r.far in let T = node_at r.turn r.at Y r.item r.colour r.outer in
    let up : (l : Link) → count l (plug C T) ≡ occurs l (r.at ∷ links_of (entries C)) + (sides l C + (count l Y + count l r.outer)) = λ l. count-at l C r.turn r.at Y r.item r.colour r.outer in
    let below : (l : Link) → count l Y ≡ cond (same child l) 1 0 + (count l r.inner + count l r.far) = λ l. count-node_at l (flip r.turn) child r.inner r.child_item r.child_colour r.far in
    let start = child-fits n ps child r in let parts = inner (live n) (flip r.turn) child r.inner r.child_item r.child_colour r.far start in
    let mv = child-replaced n m r.above es r.at low r.turn o C r.item r.colour r.outer Y r.inner ch r.spot e parts.0
    (λ l. let k = count-at l C r.turn r.at r.inner r.item r.colour r.outer in let h = r.spot.apart l in let i = up l in let j = below l in omega (arith, k, h, i, j)) in
    let R = λ (l : Link). sides l C + (count l Y + count l r.outer) in
    let total : (l : Link) → occurs l (r.at ∷ links_of r.above) + R l ≤ 1 = λ l. subst (λ (z : List (Link × Turn)). occurs l (r.at ∷ links_of z) + R l ≤ 1) r.spot.path (let h = r.spot.apart l in let i = up l in omega (arith, h, i)) in
    let kept : (l : Link) → 1 ≤ R l → (y : Row) → live n l ≡ Some y → live m l ≡ Some y = λ l j. others-live n m r.above es r.at low r.turn o ch l (absent l (r.at ∷ links_of r.above) (let h = total l in omega (arith, h, j))) in
    let A = apart-new n m r.above es r.at low r.turn o R ch (λ l j. in-row (live n) l (plug C T) r.spot.fits (let i = up l in omega (arith, i, j))) total in
    record {
      frames = mv.0;
      alike = mv.1;
      beside = record {
        spot = mv.2;
        fits = stays (live n) (live m) Y (λ l j. kept l (omega (arith, j))) start;
        more_fits = stays (live n) (live m) r.far (λ l j. kept l (let i = below l in omega (arith, i, j))) parts.1;
        apart = λ l. let k = count-at l mv.0 r.turn low r.inner r.item r.colour r.outer in let i = sides-SameButLinks l C mv.0 mv.1 in let h : occurs l (low ∷ links_of es) + (sides l C + (count l Y + count l r.outer)) ≤ 1 = A l in let j = below l in
            let p : occurs l (low ∷ links_of (entries mv.0)) ≡ occurs l (low ∷ links_of es) = ap (λ (z : List (Link × Turn)). occurs l (low ∷ links_of z)) mv.2.path in omega (arith, k, i, h, j, p);
      };
    }

-- what the second change asks for
pub can-raise : (n m : Nodes) (ps es none : List (Link × Turn)) (child low : Link) (r : ToRotate n ps child) → Lowered m n ps child r es low → none ≡ [] → CanChange m none child (Some low)
can-raise n m ps es none child low r h e =
    let V = node_at r.turn low r.inner r.item r.colour r.outer in
    can-change-beside m es none h.frames V child (flip r.turn) r.inner V r.child_item r.child_colour r.far r.far (Some low) h.beside (fits-end (live m) h.frames V h.beside.spot.fits) (sym (top-node_at r.turn low r.inner r.item r.colour r.outer)) e

-- after it the child can take the place of the other node
pub raised : (n m p : Nodes) (ps es none none' : List (Link × Turn)) (child low high : Link) (r : ToRotate n ps child) (h : Lowered m n ps child r es low) (side : Turn) → none ≡ [] → side ≡ flip r.turn
    → Changes m p none none' child high side (Some low)
    → CanTransplant p es h.frames (node_at r.turn low r.inner r.item r.colour r.outer) (turned_tree r.turn low high r.item r.child_item r.colour r.child_colour r.outer r.inner r.far) (Some high)
raised n m p ps es none none' child low high r h side e s ch =
    let V = node_at r.turn low r.inner r.item r.colour r.outer in
    let zero_there : count child V + count child r.far ≡ 0 = (let a = h.beside.apart child in let s = self-once child (count child (plug h.frames V) + count child r.far) in let i = count-plug child h.frames V in omega (arith, a, s, i)) in
    beside-hung p es h.frames V high (node_at (flip r.turn) high V r.child_item r.child_colour r.far) r.far
    (beside-changed m p es none none' h.frames V child high (flip r.turn) r.inner V r.child_item r.child_colour r.far r.far (Some low) h.beside (fits-end (live m) h.frames V h.beside.spot.fits) zero_there
    (sym (top-node_at r.turn low r.inner r.item r.colour r.outer)) e (subst (λ (i : Turn). Changes m p none none' child high i (Some low)) s ch))
    (λ l. let k = count-node_at l (flip r.turn) high V r.child_item r.child_colour r.far in omega (arith, k)) (top-node_at (flip r.turn) high V r.child_item r.child_colour r.far)

-- after the third the tree at the end of the path is turned: the whole rotation, by what its calls tell
pub rotated : (n m p q : Nodes) (ps up es none none' qs : List (Link × Turn)) (e : Link × Turn) (child low high : Link) (side side' : Turn) (o : Option Link) (r : ToRotate n ps child) → ps ≡ up ++ e ∷ [] → side ≡ flip e.1 → ((row : Row) → n.rows child ≡ Some row → o ≡ child_of side row)
    → Changes n m up es e.0 low e.1 o → none ≡ [] → side' ≡ flip e.1 → Changes m p none none' child high side' (Some low) → ((C : List Frame) (s v : Tree) → CanTransplant p es C s v (Some high) → Replaced q qs C v)
    → Replaced q qs r.frames (turned_tree e.1 low high r.item r.child_item r.colour r.child_colour r.outer r.inner r.far)
rotated n m p q ps up es none none' qs e child low high side side' o place entry s read lows empty s' highs hung =
    let r = popped-rotation n ps up e child place entry in
    let h = lowered n m ps es child low r o (inner-is n ps child r side o s read) lows in
    let mv = hung h.frames (node_at r.turn low r.inner r.item r.colour r.outer) (turned_tree r.turn low high r.item r.child_item r.colour r.child_colour r.outer r.inner r.far) (raised n m p ps es none none' child low high r h side' empty s' highs) in
    (mv.0, SameButLinks-trans r.frames h.frames mv.0 h.alike mv.1, mv.2)

-- the two nodes of a turned tree are live
pub turned-live : (m : Nodes) (ps : List (Link × Turn)) (C : List Frame) (turn : Turn) (low high : Link) (x y : ℕ) (cx cy : Colour) (a b d : Tree) → Replaced m ps C (turned_tree turn low high x y cx cy a b d) → IsLive m low × IsLive m high
turned-live m ps C turn low high x y cx cy a b d mv =
    let V = node_at turn low b x cx a in let p = fits-end (live m) mv.0 (node_at (flip turn) high V y cy d) mv.2.fits in
    (node-row (live m) turn low b x cx a (inner (live m) (flip turn) high V y cy d p).0, node-row (live m) (flip turn) high V y cy d p)

-- the same tree by the side that was named first
pub same-turn : (q : Nodes) (ps es : List (Link × Turn)) (e : Link × Turn) (qs : List (Link × Turn)) (child low high : Link) (n : Nodes) (r : ToRotate n ps child) (cx cy : Colour) → ps ≡ es ++ e ∷ []
    → Replaced q qs r.frames (turned_tree e.1 low high r.item r.child_item cx cy r.outer r.inner r.far) → Replaced q qs r.frames (turned_tree r.turn low high r.item r.child_item cx cy r.outer r.inner r.far)
same-turn q ps es e qs child low high n r cx cy z mv =
    let back = (same_from_push r.above es (r.at, r.turn) e (sym r.entry ∙ z)).1 in
    subst (λ (t : Turn). Replaced q qs r.frames (turned_tree t low high r.item r.child_item cx cy r.outer r.inner r.far)) (sym (ap (λ k. k.1) back)) mv
