-- A new node takes the place of another.
use Rattle.std.proofs.Common.{◌≡◌, ℕ, List, [], refl, sym, ap, ◌∙◌, subst, ◌+◌, ◌≤◌, arith, Some, None, Option, cond}
use Rattle.loc_pool.specs.{declared.Link.Link, declared.Turn.Turn}
use Rattle.loc_pool.specs.{declared.Turn.TheVariants.Left, declared.Turn.TheVariants.Right, declared.Colour.Colour}
use Rattle.loc_pool.specs.Same.{same}
use Rattle.loc_rb.specs.Trees.{Row, Tree, leaf, node, Fits, node_at, plug, count, child_of}
use Rattle.loc_rb.specs.Nodes.{Nodes, live, CanChange, Changes, Makes, Within, IsOld}
use Rattle.loc_rb.specs.{Places.Spot, Steps.CanTransplant, Steps.NodeAt}
use Rattle.loc_rb.proofs.{ReadCalls.child-is, ReadCalls.colour-is, OneChange.by-link, InsertionSteps.new-beside}
use Rattle.loc_rb.proofs.Trees.{count-leaf, self-once, count-plug, count-node_at, inner, fits-end}
use Rattle.loc_rb.proofs.Rotations.{Beside, can-change-beside, beside-changed, beside-hung}

-- the tree of the node whose place is taken
abbrev pub tree_at : (n : Nodes) (es : List (Link × Turn)) (at : Link) → NodeAt n es at → Tree
tree_at n es at p = node at p.left p.item p.colour p.right

-- the tree v of the other node, on a side
pub side-fits : (n m : Nodes) (es : List (Link × Turn)) (at : Link) (p : NodeAt n es at) (turn : Turn) (v w : Tree) → tree_at n es at p ≡ node_at turn at v p.item p.colour w → Spot m es p.frames (tree_at n es at p) → Fits (live m) (node_at turn at v p.item p.colour w)
side-fits n m es at p turn v w e sp = subst (λ (t : Tree). Fits (live m) t) e (fits-end (live m) p.frames (tree_at n es at p) sp.fits)

-- the new node beside the tree, with these trees under it
abbrev pub NewBeside : Nodes → (n : Nodes) (es : List (Link × Turn)) (at : Link) → NodeAt n es at → Link → ℕ → Tree → Tree → Type 0
NewBeside m n es at p new item a b = Beside m es p.frames (tree_at n es at p) new (node new a item p.colour b) leaf

-- it is bare at first
pub new-bare : (n m : Nodes) (es : List (Link × Turn)) (at : Link) (p : NodeAt n es at) (item : ℕ) (k : Colour) (bare : Link) → Makes n m item k bare → ((y : Row) → n.rows at ≡ Some y → k ≡ y.colour) → NewBeside m n es at p bare item leaf leaf
new-bare n m es at p item k bare d h =
    subst (λ (z : Colour). Beside m es p.frames (tree_at n es at p) bare (node bare leaf item z leaf) leaf) (colour-is n Left at p.left p.item p.colour k p.right (side-fits n n es at p Left p.left p.right refl p.spot) h) (new-beside n m item k bare es p.frames (tree_at n es at p) d p.spot)

-- the new node can take it
pub can-take : (n m : Nodes) (es none : List (Link × Turn)) (at : Link) (p : NodeAt n es at) (item : ℕ) (new : Link) (turn : Turn) (s other v w : Tree) (o : Option Link) → tree_at n es at p ≡ node_at turn at v p.item p.colour w
    → Beside m es p.frames (tree_at n es at p) new (node_at turn new s item p.colour other) leaf → none ≡ [] → ((y : Row) → n.rows at ≡ Some y → o ≡ child_of turn y) → CanChange m none new o
can-take n m es none at p item new turn s other v w o e h z r =
    can-change-beside m es none p.frames (tree_at n es at p) new turn s v item p.colour other leaf o h (inner (live m) turn at v p.item p.colour w (side-fits n m es at p turn v w e h.spot)).0
    (child-is n turn at v p.item p.colour w o (side-fits n n es at p turn v w e p.spot) r) z

-- and takes it
pub taken : (n m k : Nodes) (es none none' : List (Link × Turn)) (at : Link) (p : NodeAt n es at) (item : ℕ) (new next : Link) (turn : Turn) (s other v w : Tree) (o : Option Link) → tree_at n es at p ≡ node_at turn at v p.item p.colour w
    → Beside m es p.frames (tree_at n es at p) new (node_at turn new s item p.colour other) leaf → none ≡ [] → ((y : Row) → n.rows at ≡ Some y → o ≡ child_of turn y) → count new other ≤ count new w → Changes m k none none' new next turn o
    → Beside k es p.frames (tree_at n es at p) next (node_at turn next v item p.colour other) leaf
taken n m k es none none' at p item new next turn s other v w o e h z r less ch =
    let T = tree_at n es at p in
    let zero_there : count new v + count new other ≡ 0 = (let a = h.apart new in let b = self-once new (count new (plug p.frames T) + count new leaf) in let i = count-plug new p.frames T in
    let j : count new T ≡ cond (same at new) 1 0 + (count new v + count new w) = ap (count new) e ∙ count-node_at new turn at v p.item p.colour w in omega (arith, a, b, i, j, less)) in
    beside-changed m k es none none' p.frames T new next turn s v item p.colour other leaf o h (inner (live m) turn at v p.item p.colour w (side-fits n m es at p turn v w e h.spot)).0 zero_there
    (child-is n turn at v p.item p.colour w o (side-fits n n es at p turn v w e p.spot) r) z ch

-- the left tree first
pub left-taken : (n m k : Nodes) (es none none' : List (Link × Turn)) (at : Link) (p : NodeAt n es at) (item : ℕ) (c : Colour) (bare half : Link) (left : Option Link) → Makes n m item c bare → ((y : Row) → n.rows at ≡ Some y → c ≡ y.colour)
    → none ≡ [] → ((y : Row) → n.rows at ≡ Some y → left ≡ child_of Left y) → Changes m k none none' bare half Left left → NewBeside k n es at p half item p.left leaf
left-taken n m k es none none' at p item c bare half left makes its none_is left_is lefts =
    taken n m k es none none' at p item bare half Left leaf leaf p.left p.right left refl (new-bare n m es at p item c bare makes its) none_is left_is (let z = count-leaf bare in omega (arith, z)) lefts

-- the calls together: the new node with both trees can take the place
pub new-placed : (n m k q : Nodes) (es none none' rest rest' : List (Link × Turn)) (at : Link) (p : NodeAt n es at) (item : ℕ) (c : Colour) (bare half new : Link) (left right : Option Link) → Makes n m item c bare → ((y : Row) → n.rows at ≡ Some y → c ≡ y.colour)
    → none ≡ [] → ((y : Row) → n.rows at ≡ Some y → left ≡ child_of Left y) → Changes m k none none' bare half Left left → rest ≡ [] → ((y : Row) → n.rows at ≡ Some y → right ≡ child_of Right y) → Changes k q rest rest' half new Right right
    → CanTransplant q es p.frames (tree_at n es at p) (node new p.left item p.colour p.right) (Some new)
new-placed n m k q es none none' rest rest' at p item c bare half new left right makes its none_is left_is lefts rest_is right_is rights =
    let h = left-taken n m k es none none' at p item c bare half left makes its none_is left_is lefts in
    beside-hung q es p.frames (tree_at n es at p) new (node new p.left item p.colour p.right) leaf (taken n k q es rest rest' at p item half new Right leaf p.left p.right p.left right refl h rest_is right_is (omega arith) rights)
    (λ l. let i = count-node_at l Left at p.left p.item p.colour p.right in let j = count-node_at l Left new p.left item p.colour p.right in omega (arith, i, j)) refl

-- one call of `make`, with an old item
pub within-makes : (n m : Nodes) (item : ℕ) (k : Colour) (r : Link) → Makes n m item k r → IsOld n item → Within 1 0 n m
within-makes n m item k r d o = record {
  made = d.made;
  changed = (let e = d.changed in omega (arith, e));
  spare = (let e = d.spare in omega (arith, e));
  kept = d.kept;
  items = λ l y e. by-link (IsOld n y.item) l r
      (λ s. let q : Some y ≡ Some (record { item = item; left = None; right = None; colour = k }) = sym e ∙ ap m.rows s ∙ d.here in let w : y ≡ record { item = item; left = None; right = None; colour = k } = cc in
      (o.0, o.1, o.2, o.3 ∙ sym (ap (λ (z : Row). z.item) w)))
      (λ s. (l, y, sym (d.others l s) ∙ e, refl));
}

-- one call of `change`
pub within-changes : (n m : Nodes) (es es' : List (Link × Turn)) (at r : Link) (turn : Turn) (o : Option Link) → Changes n m es es' at r turn o → Within 0 1 n m
within-changes n m es es' at r turn o d = record {
  made = (let e = d.made in omega (arith, e));
  changed = (let e = d.changed in omega (arith, e));
  spare = (let e = d.spare in omega (arith, e));
  kept = d.kept;
  items = d.rows.items;
}
