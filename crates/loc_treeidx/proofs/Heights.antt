-- How far it is down from a node of the present tree: what falls on a walk that keeps no path.
use Rattle.std.proofs.Common.{◌≡◌, ℕ, zero, suc, ◌+◌, ◌<◌, ◌≤◌, List, length, refl, ap, ◌∙◌, sym, arith, Option, Some, None, max}
use Rattle.loc_pool.specs.{declared.Link.Link, declared.Turn.Turn}
use Rattle.loc_pool.specs.Rows as pool
use Rattle.loc_rb.specs.Trees.{Row, Tree, leaf, node, top, Fits, plug}
use Rattle.loc_rb.specs.{Nodes.Nodes, Nodes.live, Balance.depth}
use Rattle.loc_rb.proofs.{Trees.fits-end, Descent.at-most-42, Descent.depth-plug, Walks.child-tree}
use Rattle.loc_persist.specs.Meaning.{VersionsMeaning, IsMeaning, present_nodes}
use Rattle.loc_persist.proofs.Trees.{present-child}
use Rattle.loc_treeidx.specs.Gaps.{IsDescent}

-- one more than the greater of two heights, where there is a row
abbrev tall : Option Row → (Option Link → ℕ) → ℕ
tall None heights = 0
tall (Some x) heights = max (heights x.left) (heights x.right) + 1

-- the nodes on the longest way down from a node, where none has more than `deep`
pub height : ℕ → Nodes → Option Link → ℕ
height zero n next = 0
height (suc deep) n None = 0
height (suc deep) n (Some at) = tall (live n at) (height deep n)

-- it is the depth of the tree there
height-is : (n : Nodes) (t : Tree) (deep : ℕ) → Fits (live n) t → depth t ≤ deep → height deep n (top t) ≡ depth t
unfolding height
height-is n leaf zero fits within = refl
height-is n leaf (suc deep) fits within = refl
height-is n (node l a x c b) zero fits within = absurd (omega (arith, within))
height-is n (node l a x c b) (suc deep) fits within =
    let left = height-is n a deep fits.1 (omega (arith, within)) in
    let right = height-is n b deep fits.2 (omega (arith, within)) in
    ap (λ o. tall o (height deep n)) fits.0 ∙ (λ i. max (left i) (right i) + 1)

-- on a walk over versions it falls from a node to its child
pub here_lower : (m : VersionsMeaning) (path : List (Link × Turn)) (next : Option Link) (at : Link) (below above : Option ℕ) → IsDescent (present_nodes m) m.list path next below above → next ≡ Some at → IsMeaning m
    → (turn : Turn) (child : Option Link) → child ≡ pool.child_at (length m.roots) turn (pool.row m.rows at) → height 42 (present_nodes m) child < height 42 (present_nodes m) next
here_lower m path next at below above d is facts turn child read =
    let n = present_nodes m in
    let w = d.walk in
    let fits = fits-end (live n) w.frames w.tree w.spot.fits in
    let under = depth-plug w.frames w.tree in
    let within : depth w.tree ≤ 42 = omega (arith, at-most-42 (plug w.frames w.tree) w.balanced (omega (arith, ap length w.whole, facts.small)), under) in
    let c = child-tree n turn at w.tree child fits (w.here ∙ is) (present-child m at turn child read) in
    let here = ap (height 42 n) (sym w.here) ∙ height-is n w.tree 42 fits within in
    let there = ap (height 42 n) (sym c.2) ∙ height-is n c.0 42 c.1 (omega (arith, c.3, within)) in
    omega (arith, here, there, c.3)
