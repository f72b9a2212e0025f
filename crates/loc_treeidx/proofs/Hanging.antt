-- What hangs in the present tree between two items, on a walk down that keeps no path.
use Rattle.std.proofs.Common.{◌≡◌, ℕ, ◌<◌, true, [], ◌∷◌, ◌++◌, length, refl, subst, Option, Some, None}
use Rattle.loc_pool.specs.{declared.Link.Link, declared.Turn.Turn}
use Rattle.loc_pool.specs.{declared.Turn.TheVariants.Left, declared.Turn.TheVariants.Right, Maps.has}
use Rattle.loc_pool.specs.Rows as pool
use Rattle.loc_persist.specs.Meaning.{VersionsMeaning, IsMeaning, present_nodes}
use Rattle.loc_status.specs.Lists.{IsNextBelow, IsNextAbove}
use Rattle.loc_treeidx.specs.Gaps.{IsDescent, IsEnd, HangsBetween}
use Rattle.loc_treeidx.proofs.{Beside.above_found, Beside.below_found, Heights.height, Heights.here_lower}
use Rattle.loc_treeidx.proofs.Descents.{descent-end, here_row, here_left, here_right}

module _ (m : VersionsMeaning) (next : Option Link) (at : Link) (lower upper : Option ℕ) (h : HangsBetween m next lower upper) (is : next ≡ Some at) where
  -- the node has a row
  pub hanging_row : has m.rows at ≡ true
  hanging_row = here_row m h.0 next at lower upper h.1 is

  -- it is less far down from its child
  pub hanging_lower : IsMeaning m → (turn : Turn) (child : Option Link) → child ≡ pool.child_at (length m.roots) turn (pool.row m.rows at) → height 42 (present_nodes m) child < height 42 (present_nodes m) next
  hanging_lower facts turn child below = here_lower m h.0 next at lower upper h.1 is facts turn child below

  module _ (item : ℕ) (read : item ≡ (pool.row m.rows at).item) where
    -- what hangs on its right stands behind its item
    pub hanging_right : (child : Option Link) → child ≡ pool.child_at (length m.roots) Right (pool.row m.rows at) → HangsBetween m child (Some item) upper
    hanging_right child below = (h.0 ++ (at, Right) ∷ [], here_right m h.0 next at lower upper h.1 is item read _ child below refl)

    -- what hangs on its left stands before it
    pub hanging_left : (child : Option Link) → child ≡ pool.child_at (length m.roots) Left (pool.row m.rows at) → HangsBetween m child lower (Some item)
    hanging_left child below = (h.0 ++ (at, Left) ∷ [], here_left m h.0 next at lower upper h.1 is item read _ child below refl)

module _ (m : VersionsMeaning) (next : Option Link) (lower upper : Option ℕ) (h : HangsBetween m next lower upper) (none : next ≡ None) where
  -- a missing child parts the list
  parted : IsEnd (present_nodes m) m.list h.0 lower upper
  parted = descent-end (present_nodes m) m.list h.0 lower upper (subst (λ (o : Option Link). IsDescent (present_nodes m) m.list h.0 o lower upper) none h.1)

  -- so the item before it is the neighbour of the one behind it
  pub neighbour_below : (e : ℕ) → upper ≡ Some e → IsNextBelow e m.list lower
  neighbour_below = below_found (present_nodes m) m.list h.0 lower upper parted

  -- and the other way round
  pub neighbour_above : (e : ℕ) → lower ≡ Some e → IsNextAbove e m.list upper
  neighbour_above = above_found (present_nodes m) m.list h.0 lower upper parted
