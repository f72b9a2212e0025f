-- The walk down the present tree to the place of a target, step by step.
use Rattle.std.proofs.Common.{◌≡◌, ℕ, ◌-◌, ◌<◌, Bool, true, false, List, [], ◌∷◌, ◌++◌, length, refl, sym, ap, ◌∙◌, subst, arith, Option, Some, None, append_assoc, slice_get}
use Rattle.std.specs.{Prelude.IfSome, List.All}
use Rattle.std.proofs.{lemmas.List.length-append, lemmas.List.Elements.All-get_or}
use Rattle.std.proofs.lemmas.Option.{slice_get_within, get_or_from_slice_get}
use Rattle.loc_pool.specs.{declared.Link.Link, declared.Turn.Turn}
use Rattle.loc_pool.specs.{declared.Turn.TheVariants.Left, declared.Turn.TheVariants.Right, declared.Colour.Colour}
use Rattle.loc_pool.specs.Maps.{has}
use Rattle.loc_pool.specs.Rows as pool
use Rattle.loc_rb.specs.Trees.{Row, Tree, leaf, node, items, Fits, plug, before, after, child_of}
use Rattle.loc_rb.specs.{Nodes.Nodes, Nodes.live, Balance.IsRedBlack}
use Rattle.loc_rb.specs.Places.{Spot, Holds, Walk, LeadsTo}
use Rattle.loc_rb.proofs.Trees.{fits-end, plug-snoc, items-plug}
use Rattle.loc_rb.proofs.{OneChange.frame_of, OneChange.live-rows, OneChange.pushed, ReadCalls.child-is}
use Rattle.loc_rb.proofs.Descent.{no-tree, sided, sided-fits, before-left, after-left, before-right, after-right}
use Rattle.loc_rb.proofs.Walks.{walk-node, walk-row, walk-short}
use Rattle.loc_persist.specs.Meaning.{VersionsMeaning, IsMeaning, present_nodes}
use Rattle.loc_persist.proofs.Trees.{present-row, present-child, present-item}
use Rattle.loc_status.specs.{Targets.IsSearchEnd, Lists.IsLast}
use Rattle.loc_status.proofs.{Ends.at_seam, Lasts.last-snoc, Lasts.last_there, Lasts.search_end}
use Rattle.loc_treeidx.specs.Gaps.{IsDescent, IsEnd}

-- the item that is read at a node is that of its tree
item-is : (n : Nodes) (at : Link) (left : Tree) (x : ℕ) (colour : Colour) (right : Tree) (item : ℕ) → Fits (live n) (node at left x colour right) → ((y : Row) → n.rows at ≡ Some y → item ≡ y.item) → item ≡ x
item-is n at left x colour right item fits read = read _ (live-rows n at _ fits.0).0

-- the node that a walk has reached, with its place in the list
pub record Reached (n : Nodes) (path : List (Link × Turn)) (at : Link) (item : ℕ) (content : List ℕ) : Type 0 where
  pub front : List ℕ
  pub back : List ℕ
  pub leads : LeadsTo n path at front item back
  pub whole : front ++ item ∷ back ≡ content

-- a walk to a node has its place
pub reached : (n : Nodes) (path : List (Link × Turn)) (at : Link) (content : List ℕ) (item : ℕ) → Walk n path (Some at) content → ((y : Row) → n.rows at ≡ Some y → item ≡ y.item) → Reached n path at item content
reached n path at content item walk read =
    let found = walk-node n path at content walk in
    let leads = found.3 in
    let same : item ≡ found.1 = item-is n at leads.left found.1 leads.colour leads.right item (fits-end (live n) leads.frames (node at leads.left found.1 leads.colour leads.right) leads.spot.fits) read in
    subst (λ x. Reached n path at x content) (sym same) (record { front = found.0; back = found.2; leads = leads; whole = found.4 })

-- what holds of all items holds of it
pub reached_all : (P : ℕ → Type 0) (n : Nodes) (path : List (Link × Turn)) (at : Link) (content : List ℕ) (item : ℕ) → Reached n path at item content → All P content → P item
reached_all P n path at content item r all =
    let there : slice_get content (length r.front) ≡ Some item = subst (λ xs. slice_get xs (length r.front) ≡ Some item) r.whole (at_seam r.front (item ∷ r.back)) in
    subst P (get_or_from_slice_get content (length r.front) item 0 there) (All-get_or P content (length r.front) 0 (slice_get_within content (length r.front) item there) all)

-- at the root
pub descent-start : (n : Nodes) (content : List ℕ) → Holds n content → IsDescent n content [] n.root None None
descent-start n content h = record {
  walk = record { frames = []; tree = h.tree; spot = record { path = refl; fits = h.fits; apart = h.apart; root = h.root }; here = sym h.root; balanced = h.balanced; whole = h.list };
  below = record { none = λ empty. refl; some = λ more. absurd (omega (arith, more)) };
  above = refl;
}

-- a walk goes one node further down
walk-down : (n : Nodes) (content : List ℕ) (path longer : List (Link × Turn)) (turn : Turn) (at : Link) (next : Option Link) → Walk n path (Some at) content → ((y : Row) → n.rows at ≡ Some y → next ≡ child_of turn y) → longer ≡ path ++ (at, turn) ∷ [] → Walk n longer next content
walk-down n content path longer turn at next w child entry =
    let s = sided turn at w.tree w.here in
    let fr = frame_of (at, turn) s.item s.colour s.far in
    let fits = sided-fits n path w.frames w.tree turn at w.spot s in
    let same_tree : plug (w.frames ++ fr ∷ []) s.near ≡ plug w.frames w.tree = plug-snoc w.frames fr s.near ∙ ap (plug w.frames) (sym s.is) in
    record {
      frames = w.frames ++ fr ∷ [];
      tree = s.near;
      spot = subst (λ (z : List (Link × Turn)). Spot n z (w.frames ++ fr ∷ []) s.near) (sym entry) (pushed n path (at, turn) w.frames s.near s.item s.colour s.far (subst (λ (t : Tree). Spot n path w.frames t) s.is w.spot));
      here = sym (child-is n turn at s.near s.item s.colour s.far next fits child);
      balanced = subst (λ (t : Tree). IsRedBlack t) (sym same_tree) w.balanced;
      whole = ap items same_tree ∙ w.whole;
    }

-- one node further down, to the right of an item
pub descent-right : (n : Nodes) (content : List ℕ) (path longer : List (Link × Turn)) (at : Link) (next : Option Link) (below above : Option ℕ) (item : ℕ) → IsDescent n content path (Some at) below above
    → ((y : Row) → n.rows at ≡ Some y → item ≡ y.item) → ((y : Row) → n.rows at ≡ Some y → next ≡ child_of Right y) → longer ≡ path ++ (at, Right) ∷ [] → IsDescent n content longer next (Some item) above
unfolding walk-down
descent-right n content path longer at next below above item d read child entry =
    let w = d.walk in
    let s = sided Right at w.tree w.here in
    let same : item ≡ s.item = item-is n at s.far s.item s.colour s.near item (sided-fits n path w.frames w.tree Right at w.spot s) read in
    let front : (before w.frames ++ items s.far) ++ s.item ∷ [] ≡ before (w.frames ++ frame_of (at, Right) s.item s.colour s.far ∷ []) = append_assoc (before w.frames) (items s.far) (s.item ∷ []) ∙ sym (before-right w.frames at s.item s.colour s.far) in
    record {
      walk = walk-down n content path longer Right at next w child entry;
      below = subst (λ xs. IsLast xs (Some item)) front (subst (λ x. IsLast ((before w.frames ++ items s.far) ++ x ∷ []) (Some item)) same (last-snoc (before w.frames ++ items s.far) item));
      above = d.above ∙ ap (λ xs. slice_get xs 0) (sym (after-right w.frames at s.item s.colour s.far));
    }

-- one node further down, to the left of an item
pub descent-left : (n : Nodes) (content : List ℕ) (path longer : List (Link × Turn)) (at : Link) (next : Option Link) (below above : Option ℕ) (item : ℕ) → IsDescent n content path (Some at) below above
    → ((y : Row) → n.rows at ≡ Some y → item ≡ y.item) → ((y : Row) → n.rows at ≡ Some y → next ≡ child_of Left y) → longer ≡ path ++ (at, Left) ∷ [] → IsDescent n content longer next below (Some item)
unfolding walk-down
descent-left n content path longer at next below above item d read child entry =
    let w = d.walk in
    let s = sided Left at w.tree w.here in
    let same : item ≡ s.item = item-is n at s.near s.item s.colour s.far item (sided-fits n path w.frames w.tree Left at w.spot s) read in
    record {
      walk = walk-down n content path longer Left at next w child entry;
      below = subst (λ xs. IsLast xs below) (sym (before-left w.frames at s.item s.colour s.far)) d.below;
      above = ap Some same ∙ ap (λ xs. slice_get xs 0) (sym (after-left w.frames at s.item s.colour s.far));
    }

-- what a walk over versions knows of the node that it has reached
module _ (m : VersionsMeaning) (path : List (Link × Turn)) (next : Option Link) (at : Link) (lower upper : Option ℕ) (d : IsDescent (present_nodes m) m.list path next lower upper) (is : next ≡ Some at) where
  here : IsDescent (present_nodes m) m.list path (Some at) lower upper
  here = subst (λ o. IsDescent (present_nodes m) m.list path o lower upper) is d

  -- it has a row
  pub here_row : has m.rows at ≡ true
  here_row = present-row m at (walk-row (present_nodes m) path at m.list here.walk)

  -- the path is short
  pub here_short : IsMeaning m → length path < 42
  here_short facts = walk-short (present_nodes m) path at m.list here.walk facts.small

  module _ (item : ℕ) (read : item ≡ (pool.row m.rows at).item) where
    -- its place in the list
    pub here_item : Reached (present_nodes m) path at item m.list
    here_item = reached (present_nodes m) path at m.list item here.walk (present-item m at item read)

    -- what holds of all items holds of it
    pub here_all : (P : ℕ → Type 0) → All P m.list → P item
    here_all P all = reached_all P (present_nodes m) path at m.list item here_item all

    -- one node further down, to the right of it
    pub here_right : (longer : List (Link × Turn)) (child : Option Link) → child ≡ pool.child_at (length m.roots) Right (pool.row m.rows at) → longer ≡ path ++ (at, Right) ∷ [] → IsDescent (present_nodes m) m.list longer child (Some item) upper
    here_right longer child below entry = descent-right (present_nodes m) m.list path longer at child lower upper item here (present-item m at item read) (present-child m at Right child below) entry

    -- to the left of it
    pub here_left : (longer : List (Link × Turn)) (child : Option Link) → child ≡ pool.child_at (length m.roots) Left (pool.row m.rows at) → longer ≡ path ++ (at, Left) ∷ [] → IsDescent (present_nodes m) m.list longer child lower (Some item)
    here_left longer child below entry = descent-left (present_nodes m) m.list path longer at child lower upper item here (present-item m at item read) (present-child m at Left child below) entry

-- a path with one more entry is nearer to its greatest length
pub nearer : (path longer : List (Link × Turn)) (entry : Link × Turn) → longer ≡ path ++ entry ∷ [] → length path < 42 → 44 - length longer < 44 - length path
nearer path longer entry is short = let e = ap length is in let n = length-append path (entry ∷ []) in omega (arith, e, n, short)

-- the end of the walk
pub descent-end : (n : Nodes) (content : List ℕ) (path : List (Link × Turn)) (lower upper : Option ℕ) → IsDescent n content path None lower upper → IsEnd n content path lower upper
descent-end n content path lower upper d =
    let w = d.walk in
    let e = no-tree w.tree w.here in
    record {
      front = before w.frames;
      back = after w.frames;
      leads = record { frames = w.frames; spot = subst (λ (t : Tree). Spot n path w.frames t) e w.spot; balanced = subst (λ (t : Tree). IsRedBlack (plug w.frames t)) e w.balanced; low = refl; high = refl };
      whole = sym (items-plug w.frames leaf) ∙ ap (λ t. items (plug w.frames t)) (sym e) ∙ w.whole;
      below = d.below;
      above = d.above;
    }

module _ (n : Nodes) (content : List ℕ) (path : List (Link × Turn)) (lower upper : Option ℕ) (e : IsEnd n content path lower upper) where
  -- the items beside the gap, by their places in the list
  pub above_there : upper ≡ slice_get content (length e.front)
  above_there = e.above ∙ (sym (at_seam e.front e.back) ∙ ap (λ xs. slice_get xs (length e.front)) e.whole)

  -- the item just below stands before the end of the front
  pub below_there : 0 < length e.front → lower ≡ slice_get content (length e.front - 1)
  below_there more = last_there e.front e.back lower e.below more ∙ ap (λ xs. slice_get xs (length e.front - 1)) e.whole

  -- a search by a test that parts the two ends there
  pub search_there : (passes : ℕ → Bool) → IfSome lower (λ item. passes item ≡ true) → IfSome upper (λ item. passes item ≡ false) → IsSearchEnd passes content (length e.front)
  search_there passes pass fail = search_end passes e.front e.back content lower upper e.whole e.below e.above pass fail
