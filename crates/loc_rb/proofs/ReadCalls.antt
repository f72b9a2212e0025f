-- What the reading calls tell of a tree.
use Rattle.std.proofs.Common.{◌≡◌, ℕ, refl, sym, ◌∙◌, Option, Some, None, subst}
use Rattle.loc_pool.specs.{declared.Link.Link, declared.Turn.Turn}
use Rattle.loc_pool.specs.{declared.Turn.TheVariants.Left, declared.Turn.TheVariants.Right, declared.Colour.Colour}
use Rattle.loc_pool.specs.declared.Colour.TheVariants.{Red, Black}
use Rattle.loc_rb.specs.Trees.{Row, Tree, leaf, node, top, Fits, node_at, child_of}
use Rattle.loc_rb.specs.{Nodes.Nodes, Nodes.live, Nodes.HasRow, Balance.IsBlackTop, Steps.IsRedTop}
use Rattle.loc_rb.proofs.{Trees.node-row, Descent.sided}
use Rattle.loc_rb.proofs.OneChange.{live-rows, has-row, top-live, node-child}

pub node-has-row : (n : Nodes) (turn : Turn) (at : Link) (t : Tree) (x : ℕ) (c : Colour) (other : Tree) → Fits (live n) (node_at turn at t x c other) → HasRow n at
node-has-row n turn at t x c other p = has-row n at (node-row (live n) turn at t x c other p)

-- what `child` answers is the top of the child's tree
pub child-is : (n : Nodes) (turn : Turn) (at : Link) (t : Tree) (x : ℕ) (c : Colour) (other : Tree) (o : Option Link) → Fits (live n) (node_at turn at t x c other) → ((y : Row) → n.rows at ≡ Some y → o ≡ child_of turn y) → o ≡ top t
child-is n turn at t x c other o p h = let k = node-child (live n) turn at t x c other p in h k.0 (live-rows n at k.0 k.1).0 ∙ k.2

pub top-has-row : (n : Nodes) (t : Tree) (l : Link) → Fits (live n) t → top t ≡ Some l → HasRow n l
top-has-row n t l p e = has-row n l (top-live n t (Some l) p (sym e) l refl)

pub no-top : (t : Tree) → top t ≡ None → IsBlackTop t
no-top leaf e = tt
no-top (node l a x c b) e = cc

-- what `colour` answers is the colour of the node
pub colour-is : (n : Nodes) (turn : Turn) (at : Link) (t : Tree) (x : ℕ) (c k : Colour) (other : Tree) → Fits (live n) (node_at turn at t x c other) → ((y : Row) → n.rows at ≡ Some y → k ≡ y.colour) → k ≡ c
colour-is n Left at t x c k other p h = h _ (live-rows n at _ p.0).0
colour-is n Right at t x c k other p h = h _ (live-rows n at _ p.0).0

-- what `colour` answers of the top of a tree
top-colour : (P : Tree → Type 0) (n : Nodes) (t : Tree) (l : Link) (k : Colour) → ((a : Tree) (x : ℕ) (b : Tree) → P (node l a x k b)) → Fits (live n) t → top t ≡ Some l → ((y : Row) → n.rows l ≡ Some y → k ≡ y.colour) → P t
top-colour P n t l k so p e h =
    let s = sided Left l t e in let c = colour-is n Left l s.near s.item s.colour k s.far (subst (λ (z : Tree). Fits (live n) z) s.is p) h in
    subst P (sym s.is) (subst (λ (z : Colour). P (node l s.near s.item z s.far)) c (so s.near s.item s.far))

-- a child that is read as red is a red top
pub red-top : (n : Nodes) (t : Tree) (l : Link) → Fits (live n) t → top t ≡ Some l → ((y : Row) → n.rows l ≡ Some y → Red ≡ y.colour) → IsRedTop l t
red-top n t l = top-colour (IsRedTop l) n t l Red (λ a x b. refl)

-- one that is read as black is a black top
pub black-top : (n : Nodes) (t : Tree) (l : Link) → Fits (live n) t → top t ≡ Some l → ((y : Row) → n.rows l ≡ Some y → Black ≡ y.colour) → IsBlackTop t
black-top n t l = top-colour IsBlackTop n t l Black (λ a x b. tt)
