-- A walk from the newest root down to a node, or to a missing child: what a search for a place may cite.
use Rattle.std.proofs.Common.{◌≡◌, ℕ, List, [], ◌∷◌, ◌++◌, refl, sym, ap, ◌∙◌, subst, ◌+◌, ◌^◌, ◌≤◌, ◌<◌, arith, Some, None, Option, append_assoc, length}
use Rattle.loc_pool.specs.{declared.Link.Link, declared.Turn.Turn, declared.Turn.TheVariants.Left}
use Rattle.loc_rb.specs.Trees.{Row, Tree, leaf, node, top, items, Fits, plug, before, after, child_of}
use Rattle.loc_rb.specs.{Nodes.Nodes, Nodes.live, Nodes.HasRow, Balance.IsRedBlack, Balance.depth}
use Rattle.loc_rb.specs.Places.{Spot, Holds, Walk, Found}
use Rattle.loc_rb.proofs.{Trees.inner, Trees.plug-snoc, Trees.items-plug, OneChange.pushed, OneChange.frame_of}
use Rattle.loc_rb.proofs.ReadCalls.{child-is, node-has-row}
use Rattle.loc_rb.proofs.Descent.{at-most-42, depth-plug, depth-under, no-tree, sided, sided-fits}

-- at the root
pub walk-start : (n : Nodes) (list : List ℕ) → Holds n list → Walk n [] n.root list
walk-start n list h = record { frames = []; tree = h.tree; spot = record { path = refl; fits = h.fits; apart = h.apart; root = h.root }; here = sym h.root; balanced = h.balanced; whole = h.list }

-- the node there has a row
pub walk-row : (n : Nodes) (es : List (Link × Turn)) (at : Link) (list : List ℕ) → Walk n es (Some at) list → HasRow n at
walk-row n es at list w = let s = sided Left at w.tree w.here in node-has-row n Left at s.near s.item s.colour s.far (sided-fits n es w.frames w.tree Left at w.spot s)

-- one node further down
pub walk-step : (n : Nodes) (es ps : List (Link × Turn)) (at : Link) (turn : Turn) (o : Option Link) (list : List ℕ) → Walk n es (Some at) list → ((y : Row) → n.rows at ≡ Some y → o ≡ child_of turn y) → ps ≡ es ++ (at, turn) ∷ [] → Walk n ps o list
walk-step n es ps at turn o list w h e =
    let s = sided turn at w.tree w.here in let fr = frame_of (at, turn) s.item s.colour s.far in
    let same_tree : plug (w.frames ++ fr ∷ []) s.near ≡ plug w.frames w.tree = plug-snoc w.frames fr s.near ∙ ap (plug w.frames) (sym s.is) in
    record {
      frames = w.frames ++ fr ∷ [];
      tree = s.near;
      spot = subst (λ (z : List (Link × Turn)). Spot n z (w.frames ++ fr ∷ []) s.near) (sym e) (pushed n es (at, turn) w.frames s.near s.item s.colour s.far (subst (λ (t : Tree). Spot n es w.frames t) s.is w.spot));
      here = sym (child-is n turn at s.near s.item s.colour s.far o (sided-fits n es w.frames w.tree turn at w.spot s) h);
      balanced = subst (λ (t : Tree). IsRedBlack t) (sym same_tree) w.balanced;
      whole = ap items same_tree ∙ w.whole;
    }

-- in a tree of at most 2 ^ 21 items the path stays short, and there is room for one entry more
pub walk-short : (n : Nodes) (es : List (Link × Turn)) (at : Link) (list : List ℕ) → Walk n es (Some at) list → length list ≤ 2 ^ 21 → length es < 42
walk-short n es at list w h =
    let s = sided Left at w.tree w.here in
    let a = at-most-42 (plug w.frames w.tree) w.balanced (let e = ap length w.whole in omega (arith, e, h)) in let d = depth-plug w.frames w.tree in
    let u = depth-under Left at s.near s.item s.colour s.far in let e = ap depth s.is in let q = ap length w.spot.path in omega (arith, a, d, u, e, q)

-- the end of a walk to a missing child
pub walk-gap : (n : Nodes) (es : List (Link × Turn)) (list : List ℕ) → Walk n es None list → Found n es None list
walk-gap n es list w =
    let e = no-tree w.tree w.here in (
      before w.frames,
      after w.frames,
      record { frames = w.frames; spot = subst (λ (t : Tree). Spot n es w.frames t) e w.spot; balanced = subst (λ (t : Tree). IsRedBlack (plug w.frames t)) e w.balanced; low = refl; high = refl },
      sym (items-plug w.frames leaf) ∙ ap (λ t. items (plug w.frames t)) (sym e) ∙ w.whole,
    )

-- the end of a walk to a node
pub walk-node : (n : Nodes) (es : List (Link × Turn)) (at : Link) (list : List ℕ) → Walk n es (Some at) list → Found n es (Some at) list
walk-node n es at list w =
    let s = sided Left at w.tree w.here in let T = node at s.near s.item s.colour s.far in (
      before w.frames ++ items s.near,
      s.item,
      items s.far ++ after w.frames,
      record { frames = w.frames; left = s.near; colour = s.colour; right = s.far; spot = subst (λ (t : Tree). Spot n es w.frames t) s.is w.spot; balanced = subst (λ (t : Tree). IsRedBlack (plug w.frames t)) s.is w.balanced; low = refl; high = refl },
      append_assoc (before w.frames) (items s.near) (s.item ∷ (items s.far ++ after w.frames)) ∙ ap (λ z. before w.frames ++ z) (sym (append_assoc (items s.near) (s.item ∷ items s.far) (after w.frames)))
          ∙ sym (items-plug w.frames T) ∙ ap (λ t. items (plug w.frames t)) (sym s.is) ∙ w.whole,
    )

-- the tree of a child
pub child-tree : (n : Nodes) (turn : Turn) (at : Link) (t : Tree) (o : Option Link) → Fits (live n) t → top t ≡ Some at → ((y : Row) → n.rows at ≡ Some y → o ≡ child_of turn y) → (u : Tree) × Fits (live n) u × (top u ≡ o) × (depth u + 1 ≤ depth t)
child-tree n turn at t o f e h =
    let s = sided turn at t e in let g = subst (λ (z : Tree). Fits (live n) z) s.is f in
    (s.near, (inner (live n) turn at s.near s.item s.colour s.far g).0, sym (child-is n turn at s.near s.item s.colour s.far o g h), (let d = depth-under turn at s.near s.item s.colour s.far in let q = ap depth s.is in omega (arith, d, q)))
