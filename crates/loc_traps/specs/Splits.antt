-- What takes the place of the trapezoids that a new edge cuts. The words:
--   split_of, is_cut_by    a split by number; some split cuts a row
--   IsPart                 the part before the edge, or behind it, is there exactly where it should be
--   IsSplitOf              a split tells the pieces of the row that it cuts
--   AreSplits              each cut row has one split
--   SendsOn, AllSendOn     where a point of the cut row goes on
--   IsAdded                a map with one edge more
use Rattle.std.specs.Prelude.{◌≡◌, ℕ, ◌<◌, ◌≤◌, Bool, true, false, not, ◌&&◌, List, [], ◌∷◌, ◌++◌, length, get_or, Option, Some, None, IsSomeAnd, ◌==◌}
use Rattle.std.specs.List.{list_any}
use Rattle.loc_spec_plane.specs.declared.Trap.{Trap}
use Rattle.loc_spec_plane.specs.Points.{Point, before, is_above, is_below}
use Rattle.loc_spec_plane.specs.Tables.{Table, corner, edge, lo_of, hi_of}
use Rattle.loc_laws_traps.specs.Sets.{behind_left, before_right, is_cut, part_before, part_behind, is_over_piece, is_under_piece, is_inside}
use Rattle.loc_traps.specs.{declared.map.Split.Split, Meaning.MapMeaning, Meaning.row_of, Meaning.live_of}

-- split number j
abbrev pub split_of : List Split → ℕ → Split
split_of splits j = get_or splits j (record { cut = 0; before = None; above = 0; below = 0; behind = None })

-- some split cuts the row
abbrev pub is_cut_by : List Split → ℕ → Bool
is_cut_by splits i = list_any (λ (s : Split). s.cut == i) splits

-- a part has a number from n on exactly where it is there, and that row is the part
abbrev pub IsPart : Bool → Trap → ℕ → List Trap → Option ℕ → Type 0
IsPart there part n rows None = there ≡ false
IsPart there part n rows (Some i) = (there ≡ true) × (n ≤ i) × (i < length rows) × (row_of rows i ≡ part)

-- the split tells the pieces of its row when edge e cuts it: they are rows from n on
pub record IsSplitOf (t : Table) (e n : ℕ) (rows : List Trap) (split : Split) : Type 0 where
  pub before : IsPart (behind_left (row_of rows split.cut).left (lo_of t e)) (part_before (row_of rows split.cut) (lo_of t e)) n rows split.before
  pub behind : IsPart (before_right (row_of rows split.cut).right (hi_of t e)) (part_behind (row_of rows split.cut) (hi_of t e)) n rows split.behind
  pub above : is_over_piece t e (row_of rows split.cut) (row_of rows split.above) ≡ true
  pub above_new : (n ≤ split.above) × (split.above < length rows)
  pub below : is_under_piece t e (row_of rows split.cut) (row_of rows split.below) ≡ true
  pub below_new : (n ≤ split.below) × (split.below < length rows)

-- the live rows below n that edge e cuts have one split each, and no other row has one
pub record AreSplits (t : Table) (e n : ℕ) (rows : List Trap) (is_live : List Bool) (splits : List Split) : Type 0 where
  pub tells : (j : ℕ) → j < length splits → IsSplitOf t e n rows (split_of splits j)
  pub cuts : (j : ℕ) → j < length splits → ((split_of splits j).cut < n) × (live_of is_live (split_of splits j).cut ≡ true) × (is_cut t e (row_of rows (split_of splits j).cut) ≡ true)
  pub complete : (i : ℕ) → i < n → live_of is_live i ≡ true → is_cut t e (row_of rows i) ≡ true → (j : ℕ) × (j < length splits) × ((split_of splits j).cut ≡ i)
  pub single : (i j : ℕ) → i < length splits → j < length splits → (split_of splits i).cut ≡ (split_of splits j).cut → i ≡ j

-- a point strictly inside the cut row goes on to the part before the edge if it comes before the lower end, to the one behind if it comes after the upper end, else to the piece on its side
pub record SendsOn (t : Table) (e : ℕ) (rows : List Trap) (split : Split) (p : Point) : Type 0 where
  pub before_it : before p (corner t (lo_of t e)) ≡ true → IsSomeAnd split.before (λ i. is_inside t (row_of rows i) p ≡ true)
  pub behind_it : before (corner t (hi_of t e)) p ≡ true → IsSomeAnd split.behind (λ i. is_inside t (row_of rows i) p ≡ true)
  pub above_it : before (corner t (lo_of t e)) p ≡ true → before p (corner t (hi_of t e)) ≡ true → is_above (edge t e) p ≡ true → is_inside t (row_of rows split.above) p ≡ true
  pub below_it : before (corner t (lo_of t e)) p ≡ true → before p (corner t (hi_of t e)) ≡ true → is_below (edge t e) p ≡ true → is_inside t (row_of rows split.below) p ≡ true

-- each split sends the points of its row on
abbrev pub AllSendOn : Table → ℕ → List Trap → List Split → Type 0
AllSendOn t e rows splits = (j : ℕ) → j < length splits → (p : Point) → is_inside t (row_of rows (split_of splits j).cut) p ≡ true → SendsOn t e rows (split_of splits j) p

-- one edge more: old rows keep number and bounds, those that the edge cuts are live no longer, and the new ones are
pub record IsAdded (t : Table) (e : ℕ) (old new : MapMeaning) : Type 0 where
  pub edge : new.added ≡ old.added ++ e ∷ []
  pub longer : length old.rows ≤ length new.rows
  pub kept : (i : ℕ) → i < length old.rows → row_of new.rows i ≡ row_of old.rows i
  pub stays : (i : ℕ) → i < length old.rows → live_of new.is_live i ≡ (live_of old.is_live i && not (is_cut t e (row_of old.rows i)))
  pub fresh : (i : ℕ) → length old.rows ≤ i → i < length new.rows → live_of new.is_live i ≡ true
