-- A node of which a child is missing is cut out.
use Rattle.std.proofs.Common.{◌≡◌, ℕ, List, ◌++◌, refl, sym, ap, ◌∙◌, subst, ◌+◌, ◌≤◌, arith, Some, None, Option, inl, inr, append_assoc, append-nil}
use Rattle.loc_pool.specs.{declared.Link.Link, declared.Turn.Turn, declared.Turn.TheVariants.Left}
use Rattle.loc_pool.specs.{declared.Colour.Colour, declared.Colour.TheVariants.Red, declared.Colour.TheVariants.Black}
use Rattle.loc_rb.specs.Trees.{Row, Tree, leaf, node, top, items, Fits, Frame, plug, SameButLinks, count, before, after}
use Rattle.loc_rb.specs.Nodes.{Nodes, live, IsLive, Colours}
use Rattle.loc_rb.specs.Balance.{IsBlackTop, MayHang, black, HasBlackHeight, Awaits}
use Rattle.loc_rb.specs.Places.{Spot, Holds}
use Rattle.loc_rb.specs.Steps.{IsRedTop, Replaced, CanTransplant, LacksBlack, ToSpliceOut, MissesChild, remaining}
use Rattle.loc_rb.proofs.Trees.{fits-end, count-plug, count-node_at, items-plug}
use Rattle.loc_rb.proofs.{ReadCalls.no-top, ReadCalls.colour-is, Recolouring.recolour-spot}
use Rattle.loc_rb.proofs.Balanced.{taken-by, awaits-alike, awaits-cut, black-hangs, holds-of, red-shape, red-blackened, zero-black, may-hang, may-be-black}
use Rattle.loc_rb.proofs.{ItemLists.before-SameButLinks, ItemLists.after-SameButLinks, OneChange.some-link}
use Rattle.loc_rb.proofs.InsertionSteps.{red-top-live}

pub remaining-none : (a b : Tree) → top a ≡ None → top b ≡ top (remaining a b)
remaining-none leaf b e = refl
remaining-none (node l s x c t) b e = cc

pub remaining-some : (a b : Tree) (l : Link) → top a ≡ Some l → Some l ≡ top (remaining a b)
remaining-some leaf b l e = cc
remaining-some (node m s x c t) b l e = sym e

remaining-has : (P : Tree → Type 0) (a b : Tree) → P a → P b → P (remaining a b)
remaining-has P leaf b p q = q
remaining-has P (node l s x c t) b p q = p

count-remaining : (l : Link) (a b : Tree) → count l (remaining a b) ≤ count l a + count l b
unfolding count
count-remaining l leaf b = omega arith
count-remaining l (node m s x c t) b = omega arith

items-remaining : (a b : Tree) → MissesChild a b → items (remaining a b) ≡ items a ++ items b
items-remaining leaf b s = refl
items-remaining (node l s x c t) b e = elim e as (λ _. items (node l s x c t) ≡ items (node l s x c t) ++ items b) [
  | inl z ↦ let q : node l s x c t ≡ leaf = z in cc
  | inr z ↦ sym (append-nil (items (node l s x c t))) ∙ ap (λ u. items (node l s x c t) ++ items u) (sym z)
]

-- the child can take the place
pub can-splice : (n : Nodes) (es : List (Link × Turn)) (at : Link) (L : List ℕ) (o : Option Link) → (q : ToSpliceOut n es at L) → o ≡ top (remaining q.place.left q.place.right) → CanTransplant n es q.place.frames (node at q.place.left q.item q.place.colour q.place.right) (remaining q.place.left q.place.right) o
can-splice n es at L o q e =
    let p = q.place in let f = fits-end (live n) p.frames (node at p.left q.item p.colour p.right) p.spot.fits in
    record {
      spot = p.spot;
      fits = remaining-has (λ t. Fits (live n) t) p.left p.right f.1 f.2;
      apart = λ l. let a = p.spot.apart l in let i = count-plug l p.frames (node at p.left q.item p.colour p.right) in let j = count-plug l p.frames (remaining p.left p.right) in
          let k = count-node_at l Left at p.left q.item p.colour p.right in let m = count-remaining l p.left p.right in omega (arith, a, i, j, k, m);
      to = e;
    }

splice-list : (n : Nodes) (es : List (Link × Turn)) (at : Link) (L : List ℕ) (D : List Frame) (t : Tree) → (q : ToSpliceOut n es at L) → SameButLinks q.place.frames D → items t ≡ items (remaining q.place.left q.place.right) → items (plug D t) ≡ L
splice-list n es at L D t q s e =
    let p = q.place in
    items-plug D t ∙ (λ i. before-SameButLinks p.frames D s i ++ ((e ∙ items-remaining p.left p.right q.spare) i ++ after-SameButLinks p.frames D s i))
    ∙ ap (λ z. before p.frames ++ z) (append_assoc (items p.left) (items p.right) (after p.frames)) ∙ sym (append_assoc (before p.frames) (items p.left) (items p.right ++ after p.frames))
    ∙ (λ i. p.low i ++ p.high i) ∙ q.list

-- the children of a node whose colour is told
coloured-parts : (c k : Colour) (l : Link) (a : Tree) (x : ℕ) (b : Tree) (h : ℕ) → c ≡ k → HasBlackHeight (node l a x c b) h → MayHang k a × MayHang k b × ((i : ℕ) × (h ≡ black k + i) × HasBlackHeight a i × HasBlackHeight b i)
coloured-parts c k l a x b h e p = subst (λ (z : Colour). HasBlackHeight (node l a x z b) h) e p

-- a red node leaves a red-black tree
pub splice-red : (n m : Nodes) (es ps : List (Link × Turn)) (at : Link) (L : List ℕ) → (q : ToSpliceOut n es at L) → Replaced m ps q.place.frames (remaining q.place.left q.place.right) → q.place.colour ≡ Red → Holds m L
splice-red n m es ps at L q mv e =
    let p = q.place in let T = node at p.left q.item p.colour p.right in let U = remaining p.left p.right in
    let t = taken-by Red p.balanced.1.0 p.frames T p.balanced.0 p.balanced.1.1 in let parts = coloured-parts p.colour Red at p.left q.item p.right t.height e t.balanced in
    holds-of m ps mv.0 U t.height L mv.2 (awaits-alike _ _ _ mv.1 (awaits-cut p.frames T p.balanced t)) (black-hangs t.parent U (remaining-has IsBlackTop p.left p.right parts.0 parts.1))
    (subst (λ (i : ℕ). HasBlackHeight U i) (sym (parts.2.1 ∙ zero-black parts.2.0)) (remaining-has (λ u. HasBlackHeight u parts.2.0) p.left p.right parts.2.2 parts.2.3)) (splice-list n es at L mv.0 U q mv.1 refl)

-- what a black node that is cut out leaves
record BlackSplice (n : Nodes) (es : List (Link × Turn)) (at : Link) (L : List ℕ) (q : ToSpliceOut n es at L) : Type 0 where
  pub awaits : Awaits q.place.frames (1 + 0)
  pub balanced : HasBlackHeight (remaining q.place.left q.place.right) 0

black-splice : (n : Nodes) (es : List (Link × Turn)) (at : Link) (L : List ℕ) → (q : ToSpliceOut n es at L) → q.place.colour ≡ Black → BlackSplice n es at L q
black-splice n es at L q e =
    let p = q.place in let T = node at p.left q.item p.colour p.right in
    let t = taken-by Red p.balanced.1.0 p.frames T p.balanced.0 p.balanced.1.1 in
    let parts = coloured-parts p.colour Black at p.left q.item p.right t.height e t.balanced in
    let z = elim q.spare as (λ _. parts.2.0 ≡ 0) [ inl e ↦ subst (λ (t : Tree). HasBlackHeight t parts.2.0) e parts.2.2 | inr e ↦ subst (λ (t : Tree). HasBlackHeight t parts.2.0) e parts.2.3 ] in
    record {
      awaits = subst (λ (i : ℕ). Awaits p.frames i) (parts.2.1 ∙ ap (λ i. 1 + i) z) (awaits-cut p.frames T p.balanced t);
      balanced = subst (λ (i : ℕ). HasBlackHeight (remaining p.left p.right) i) z (remaining-has (λ u. HasBlackHeight u parts.2.0) p.left p.right parts.2.2 parts.2.3);
    }

zero-red : (t : Tree) (l : Link) → HasBlackHeight t 0 → top t ≡ Some l → IsRedTop l t
zero-red leaf l r e = cc
zero-red (node m a x Red b) l r e = some-link m l e
zero-red (node m a x Black b) l r e = let z = r.2.1 in absurd (let q : ⊥ = omega (arith, z) in q)

-- the child of a black one is red
pub splice-child-live : (n m : Nodes) (es ps : List (Link × Turn)) (at child : Link) (L : List ℕ) → (q : ToSpliceOut n es at L) → Replaced m ps q.place.frames (remaining q.place.left q.place.right) → q.place.colour ≡ Black → top (remaining q.place.left q.place.right) ≡ Some child → IsLive m child
splice-child-live n m es ps at child L q mv e o =
    let b = black-splice n es at L q e in let U = remaining q.place.left q.place.right in
    red-top-live m child U (zero-red U child b.balanced o) (fits-end (live m) mv.0 U mv.2.fits)

-- and once it is black the tree is red-black
pub splice-red-child : (n m m' : Nodes) (es ps : List (Link × Turn)) (at child : Link) (L : List ℕ) → (q : ToSpliceOut n es at L) → Replaced m ps q.place.frames (remaining q.place.left q.place.right) → q.place.colour ≡ Black → top (remaining q.place.left q.place.right) ≡ Some child → Colours m m' child Black → Holds m' L
splice-red-child n m m' es ps at child L q mv e o d =
    let b = black-splice n es at L q e in let U = remaining q.place.left q.place.right in let r = red-shape Left child U (zero-red U child b.balanced o) in
    let T = node child r.near r.item Black r.far in
    holds-of m' ps mv.0 T (1 + 0) L (recolour-spot m m' ps mv.0 Left child r.near r.item Red Black r.far d (subst (λ (t : Tree). Spot m ps mv.0 t) r.is mv.2)) (awaits-alike _ _ _ mv.1 b.awaits)
    (may-hang b.awaits.parent Left child r.near r.item Black r.far (may-be-black b.awaits.parent)) (red-blackened Left child U 0 r b.balanced) (splice-list n es at L mv.0 T q mv.1 (ap items (sym r.is)))

-- without a child a black node is lacking
pub splice-lacks : (n m : Nodes) (es ps : List (Link × Turn)) (at : Link) (L : List ℕ) → (q : ToSpliceOut n es at L) → Replaced m ps q.place.frames (remaining q.place.left q.place.right) → q.place.colour ≡ Black → top (remaining q.place.left q.place.right) ≡ None → LacksBlack m ps L
splice-lacks n m es ps at L q mv e o =
    let b = black-splice n es at L q e in let U = remaining q.place.left q.place.right in
    record { frames = mv.0; tree = U; spot = mv.2; height = 0; awaits = awaits-alike q.place.frames mv.0 (1 + 0) mv.1 b.awaits; balanced = b.balanced; black_top = no-top U o; list = splice-list n es at L mv.0 U q mv.1 refl }

-- the node that is spliced out stands as its tree says
pub spliced-fits : (n : Nodes) (es : List (Link × Turn)) (at : Link) (L : List ℕ) → (q : ToSpliceOut n es at L) → Fits (live n) (node at q.place.left q.item q.place.colour q.place.right)
spliced-fits n es at L q = fits-end (live n) q.place.frames (node at q.place.left q.item q.place.colour q.place.right) q.place.spot.fits

-- what is known once its child hangs in its place, by what the three calls tell
pub record Spliced (n m : Nodes) (es ps : List (Link × Turn)) (at : Link) (L : List ℕ) (q : ToSpliceOut n es at L) (child : Option Link) (colour : Colour) : Type 0 where
  pub child_is : child ≡ top (remaining q.place.left q.place.right)
  pub colour_is : q.place.colour ≡ colour
  pub replaced : Replaced m ps q.place.frames (remaining q.place.left q.place.right)

-- and it is known
pub spliced : (n m : Nodes) (es ps : List (Link × Turn)) (at : Link) (L : List ℕ) (q : ToSpliceOut n es at L) (child : Option Link) (colour : Colour)
    → ((a : Tree) (x : ℕ) (c : Colour) (b : Tree) → Fits (live n) (node at a x c b) → child ≡ top (remaining a b)) → ((y : Row) → n.rows at ≡ Some y → colour ≡ y.colour)
    → ((C : List Frame) (s v : Tree) → CanTransplant n es C s v child → Replaced m ps C v) → Spliced n m es ps at L q child colour
spliced n m es ps at L q child colour only its hung =
    let p = q.place in let f = spliced-fits n es at L q in let o = only p.left q.item p.colour p.right f in
    record {
      child_is = o;
      colour_is = sym (colour-is n Left at p.left q.item p.colour colour p.right f its);
      replaced = hung p.frames (node at p.left q.item p.colour p.right) (remaining p.left p.right) (can-splice n es at L child q o);
    }
