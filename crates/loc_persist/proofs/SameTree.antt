-- The present tree as callers see it is the one that the store keeps: a root leads to one tree.
use Rattle.std.proofs.Common.{◌≡◌, ℕ, List, ◌∷◌, ◌++◌, append_assoc, refl, sym, ap, ◌∙◌, subst, Some}
use Rattle.loc_pool.specs.{declared.Link.Link, declared.Turn.Turn}
use Rattle.loc_rb.specs.Trees.{Row, Reading, Tree, leaf, node, top, items, Fits, Frame, plug, before, after}
use Rattle.loc_rb.specs.Nodes.{Nodes, live}
use Rattle.loc_rb.specs.Places.{Spot, Holds, LeadsToGap, LeadsTo}
use Rattle.loc_rb.proofs.{Trees.items-plug, Trees.stays, OneChange.some-link, Recolouring.some-row}

-- a root leads to one tree
pub same-tree : (f g : Reading) → ((l : Link) (x : Row) → f l ≡ Some x → g l ≡ Some x) → (t u : Tree) → Fits f t → Fits g u → top t ≡ top u → t ≡ u
same-tree f g k leaf leaf p q e = refl
same-tree f g k leaf (node m s y d t) p q e = cc
same-tree f g k (node l a x c b) leaf p q e = cc
same-tree f g k (node l a x c b) (node m s y d t) p q e =
    let z = some-link l m e in let w = some-row _ _ (sym (k l _ p.0) ∙ ap g z ∙ q.0) in
    let on_left = same-tree f g k a s p.1 q.1 (ap (λ (r : Row). r.left) w) in let on_right = same-tree f g k b t p.2 q.2 (ap (λ (r : Row). r.right) w) in
    λ i. node (z i) (on_left i) (w i).item (w i).colour (on_right i)

-- nodes of which more are current, and all else is as before
pub record Wider (n m : Nodes) : Type 0 where
  pub live : (l : Link) (x : Row) → live n l ≡ Some x → live m l ≡ Some x
  pub root : m.root ≡ n.root

-- so they hold the same list
pub holds-wider : (n m : Nodes) (list : List ℕ) → Wider n m → Holds n list → Holds m list
holds-wider n m list w h = record { tree = h.tree; fits = stays (live n) (live m) h.tree (λ l _ x e. w.live l x e) h.fits; apart = h.apart; root = w.root ∙ h.root; balanced = h.balanced; list = h.list }

-- the tree at the end of a path in the wider nodes is the tree of the others
spot-narrow : (n m : Nodes) (list : List ℕ) (path : List (Link × Turn)) (C : List Frame) (t : Tree) → Wider n m → Holds n list → Spot m path C t → Spot n path C t × (before C ++ (items t ++ after C) ≡ list)
spot-narrow n m list path C t w h sp =
    let e = same-tree (live n) (live m) w.live h.tree (plug C t) h.fits sp.fits (sym h.root ∙ sym w.root ∙ sp.root) in (
      record { path = sp.path; fits = subst (λ (u : Tree). Fits (live n) u) e h.fits; apart = sp.apart; root = sym w.root ∙ sp.root },
      sym (items-plug C t) ∙ ap items (sym e) ∙ h.list,
    )

-- a place in the wider nodes is one in the others, and divides their list
pub gap-narrow : (n m : Nodes) (list : List ℕ) (path : List (Link × Turn)) (P F : List ℕ) → Wider n m → Holds n list → LeadsToGap m path P F → LeadsToGap n path P F × (P ++ F ≡ list)
gap-narrow n m list path P F w h g =
    let s = spot-narrow n m list path g.frames leaf w h g.spot in (record { frames = g.frames; spot = s.0; balanced = g.balanced; low = g.low; high = g.high }, (λ i. sym g.low i ++ sym g.high i) ∙ s.1)

pub node-narrow : (n m : Nodes) (list : List ℕ) (path : List (Link × Turn)) (at : Link) (P : List ℕ) (x : ℕ) (F : List ℕ) → Wider n m → Holds n list → LeadsTo m path at P x F → LeadsTo n path at P x F × (P ++ x ∷ F ≡ list)
node-narrow n m list path at P x F w h g =
    let s = spot-narrow n m list path g.frames (node at g.left x g.colour g.right) w h g.spot in (
      record { frames = g.frames; left = g.left; colour = g.colour; right = g.right; spot = s.0; balanced = g.balanced; low = g.low; high = g.high },
      (λ i. sym g.low i ++ x ∷ sym g.high i) ∙ append_assoc (before g.frames) (items g.left) (x ∷ (items g.right ++ after g.frames)) ∙ ap (λ z. before g.frames ++ z) (sym (append_assoc (items g.left) (x ∷ items g.right) (after g.frames))) ∙ s.1,
    )
