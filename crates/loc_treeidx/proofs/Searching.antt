-- The walk of a point down the tree of a version.
use Rattle.std.proofs.Common.{◌≡◌, ℕ, ◌+◌, ◌-◌, ◌*◌, ◌^◌, ◌<◌, ◌≤◌, true, List, [], ◌∷◌, ◌++◌, length, get_or, refl, sym, ap, ◌∙◌, subst, arith, Option, Some, None, append_assoc, append-nil, slice_get}
use Rattle.std.specs.Prelude.{IfSome}
use Rattle.std.proofs.{Math.Pow.pow_mono, lemmas.Bool.and_from, lemmas.Bool.lt-ltb}
use Rattle.std.proofs.lemmas.List.{length-append, get_or-append-add}
use Rattle.std.proofs.lemmas.Option.{slice_get_within, get_or_from_slice_get}
use Rattle.loc_pool.specs.{declared.Link.Link, declared.Turn.TheVariants.Left, declared.Turn.TheVariants.Right}
use Rattle.loc_pool.specs.{declared.Colour.Colour, Maps.Map, Maps.has, Rows.Row, Rows.row, Rows.child_at}
use Rattle.loc_rb.specs.Trees.{Tree, leaf, node, top, items}
use Rattle.loc_rb.specs.Balance.{depth}
use Rattle.loc_rb.proofs.{OneChange.some-link, Descent.no-tree}
use Rattle.loc_persist.specs.{Reading.IsThere, Meaning.VersionsMeaning, Meaning.Reads}
use Rattle.loc_spec_plane.specs.declared.Place.TheVariants.{Border, Area}
use Rattle.loc_spec_plane.specs.Points.{Point, is_above, is_on, is_below, lies_on}
use Rattle.loc_spec_plane.specs.Tables.{Table, edge}
use Rattle.loc_spec_plane.specs.Places.{alive, is_edge, IsCornerless, IsListAt, IsPlace}
use Rattle.loc_place.specs.Planar.{IsPlanar}
use Rattle.loc_place.proofs.{Cornerless.lies_on_is, Listed.listed_alive, Listed.in_area}
use Rattle.loc_status.proofs.{Ends.at_seam, Lasts.last-snoc, Lasts.last-passes, Lasts.last_there}
use Rattle.loc_status.specs.Lists.{IsLast}

-- a node of a tree that stands in a version, with the trees of its children
pub record NodeThere (version : ℕ) (rows : Map Row) (tree : Tree) (at : Link) : Type 0 where
  pub left : Tree
  pub item : ℕ
  pub colour : Colour
  pub right : Tree
  pub is : tree ≡ node at left item colour right
  pub has_row : has rows at ≡ true
  pub read : (row rows at).item ≡ item
  pub to_left : child_at version Left (row rows at) ≡ top left
  pub to_right : child_at version Right (row rows at) ≡ top right
  pub in_left : IsThere version rows left
  pub in_right : IsThere version rows right

node_there : (version : ℕ) (rows : Map Row) (tree : Tree) (at : Link) → IsThere version rows tree → top tree ≡ Some at → NodeThere version rows tree at
node_there version rows leaf at there here = cc
node_there version rows (node l left item colour right) at there here =
    subst (λ (k : Link). NodeThere version rows (node l left item colour right) k) (some-link l at here)
    (record { left = left; item = item; colour = colour; right = right; is = refl; has_row = there.0; read = there.1; to_left = there.2; to_right = there.3; in_left = there.4; in_right = there.5 })

-- the search so far: the list is read around the tree that is left, p is above the edge before it and below the one behind it, and each step went one node down
pub record IsSearch (t : Table) (p : Point) (m : VersionsMeaning) (version : ℕ) (list : List ℕ) (started steps : ℕ) (next : Option Link) (floor : Option ℕ) : Type 0 where
  pub front : List ℕ
  pub tree : Tree
  pub back : List ℕ
  pub there : IsThere version m.rows tree
  pub here : top tree ≡ next
  pub whole : front ++ (items tree ++ back) ≡ list
  pub last : IsLast front floor
  pub above : IfSome floor (λ e. is_above (edge t e) p ≡ true)
  pub below : 0 < length back → is_below (edge t (get_or back 0 0)) p ≡ true
  pub total : ℕ
  pub deep : total ≤ 42
  pub shallow : 2 ^ total ≤ (length list + 1) * (length list + 1)
  pub counted : started ≤ steps
  pub took : steps + depth tree ≤ started + total

module _ (t : Table) (p : Point) (m : VersionsMeaning) (version : ℕ) (list : List ℕ) (started : ℕ) where
  -- at the root
  pub search-start : (root : Option Link) → Reads version m.rows root list → IsSearch t p m version list started started root None
  search-start root r = record {
    front = [];
    tree = r.tree;
    back = [];
    there = r.there;
    here = sym r.here;
    whole = append-nil (items r.tree) ∙ r.whole;
    last = record { none = λ empty. refl; some = λ more. absurd (omega (arith, more)) };
    above = tt;
    below = λ more. absurd (omega (arith, more));
    total = depth r.tree;
    deep = r.deep;
    shallow = r.shallow;
    counted = omega arith;
    took = omega arith;
  }

  module _ (steps : ℕ) (next : Option Link) (floor : Option ℕ) (s : IsSearch t p m version list started steps next floor) where
    -- no more steps than the tree is deep
    pub search-few : 2 ^ (steps - started) ≤ (length list + 1) * (length list + 1)
    search-few =
        let fewer : steps - started ≤ s.total = omega (arith, s.took, s.counted) in
        omega (arith, pow_mono fewer, s.shallow)

    -- where nothing is left, p lies over the edge before
    pub search-area : next ≡ None → IsListAt t p list → IsPlanar t → IsCornerless t p → IsPlace t p (Area floor)
    search-area none is_list planar clear =
        let empty : s.tree ≡ leaf = no-tree s.tree (s.here ∙ none) in
        let whole : s.front ++ s.back ≡ list = ap (λ z. s.front ++ (items z ++ s.back)) (sym empty) ∙ s.whole in
        let n = length-append s.front s.back in
        let k = ap length whole in
        let start : length s.front + 0 ≡ length s.front = omega arith in
        in_area t p list is_list planar clear (length s.front) (omega (arith, n, k))
        (λ more. subst (λ es. is_above (edge t (get_or es (length s.front - 1) 0)) p ≡ true) whole (last-passes (λ e. is_above (edge t e) p) s.front s.back floor s.last s.above more))
        (λ less. subst (λ es. is_below (edge t (get_or es (length s.front) 0)) p ≡ true) whole (subst (λ i. is_below (edge t (get_or (s.front ++ s.back) i 0)) p ≡ true) start (subst (λ e. is_below (edge t e) p ≡ true) (sym (get_or-append-add s.front s.back 0 0)) (s.below (omega (arith, n, k, less))))))
        floor s.last.none (λ more. last_there s.front s.back floor s.last more ∙ ap (λ es. slice_get es (length s.front - 1)) whole)

    module _ (at : Link) (is : next ≡ Some at) where
      reached : NodeThere version m.rows s.tree at
      reached = node_there version m.rows s.tree at s.there (s.here ∙ is)

      -- the tree has a node
      deeper : 1 ≤ depth s.tree
      deeper = let e = ap depth reached.is in omega (arith, e)

      -- one step more is within the depth
      pub search-more : steps + 1 ≤ started + s.total
      search-more = let d = deeper in let took = s.took in omega (arith, d, took)

      -- so the bound holds after it
      pub search-more-few : (after : ℕ) → after ≡ steps + 1 → 2 ^ (after - started) ≤ (length list + 1) * (length list + 1)
      search-more-few after ticked =
          let fewer : after - started ≤ s.total = omega (arith, search-more, s.counted, ticked) in
          omega (arith, pow_mono fewer, s.shallow)

      module _ (item : ℕ) (read : item ≡ (row m.rows at).item) where
        same : item ≡ reached.item
        same = read ∙ reached.read

        around : (s.front ++ items reached.left) ++ (item ∷ (items reached.right ++ s.back)) ≡ list
        around =
            let n = reached in
            append_assoc s.front (items n.left) (item ∷ (items n.right ++ s.back)) ∙ (ap (λ x. s.front ++ (items n.left ++ (x ∷ (items n.right ++ s.back)))) same
            ∙ (ap (λ z. s.front ++ z) (sym (append_assoc (items n.left) (n.item ∷ items n.right) s.back)) ∙ (ap (λ z. s.front ++ (items z ++ s.back)) (sym n.is) ∙ s.whole)))

        -- the edge at the node is one of the list, and alive
        pub search-edge : IsListAt t p list → (item < length t.ends) × (alive (edge t item) p ≡ true)
        search-edge is_list =
            let place = length (s.front ++ items reached.left) in
            let there : slice_get list place ≡ Some item = subst (λ es. slice_get es place ≡ Some item) around (at_seam (s.front ++ items reached.left) (item ∷ (items reached.right ++ s.back))) in
            subst (λ e. (e < length t.ends) × (alive (edge t e) p ≡ true)) (get_or_from_slice_get list place item 0 there) (listed_alive t p list is_list place (slice_get_within list place item there))

        -- where p is on its line, p lies on it
        pub search-border : IsListAt t p list → IsPlanar t → IsCornerless t p → is_on (edge t item) p ≡ true → IsPlace t p (Border item)
        search-border is_list planar clear on =
            let live = search-edge is_list in
            (clear, and_from (is_edge t item) (lies_on (edge t item) p) (lt-ltb item (length t.ends) live.0) (lies_on_is t p clear planar.in_order item live.0 ∙ and_from (is_on (edge t item) p) (alive (edge t item) p) on live.1))

        -- one node further down, to the left of an edge that p is below
        pub search-left : (after : ℕ) (child : Option Link) → after ≡ steps + 1 → child ≡ child_at version Left (row m.rows at) → is_below (edge t item) p ≡ true → IsSearch t p m version list started after child floor
        search-left after child ticked to below =
            let n = reached in
            record {
              front = s.front;
              tree = n.left;
              back = item ∷ (items n.right ++ s.back);
              there = n.in_left;
              here = sym (to ∙ n.to_left);
              whole = sym (append_assoc s.front (items n.left) (item ∷ (items n.right ++ s.back))) ∙ around;
              last = s.last;
              above = s.above;
              below = λ more. below;
              total = s.total;
              deep = s.deep;
              shallow = s.shallow;
              counted = omega (arith, s.counted, ticked);
              took = omega (arith, ap depth n.is, s.took, ticked);
            }

        -- to the right of an edge that p is above
        pub search-right : (after : ℕ) (child : Option Link) → after ≡ steps + 1 → child ≡ child_at version Right (row m.rows at) → is_above (edge t item) p ≡ true → IsSearch t p m version list started after child (Some item)
        search-right after child ticked to above =
            let n = reached in
            record {
              front = (s.front ++ items n.left) ++ item ∷ [];
              tree = n.right;
              back = s.back;
              there = n.in_right;
              here = sym (to ∙ n.to_right);
              whole = append_assoc (s.front ++ items n.left) (item ∷ []) (items n.right ++ s.back) ∙ around;
              last = last-snoc (s.front ++ items n.left) item;
              above = above;
              below = s.below;
              total = s.total;
              deep = s.deep;
              shallow = s.shallow;
              counted = omega (arith, s.counted, ticked);
              took = omega (arith, ap depth n.is, s.took, ticked);
            }
