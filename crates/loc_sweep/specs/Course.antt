-- How far a sweep has come: what its status means between two corners, and what it has noted. The words: `IsBefore`, `Leaves`, `Comes`, `AreNextBelow`,
-- `LiesAbove`, `IsNoted`, `HasSealed`.
use Rattle.std.specs.Prelude.{◌≡◌, ◌≢◌, ℕ, ◌+◌, ◌-◌, ◌<◌, ◌≤◌, false, List, [], length, get_or, Option, None, IfSome}
use Rattle.loc_spec_plane.specs.{Points.is_above, Places.alive_at}
use Rattle.loc_spec_plane.specs.Tables.{Table, corner, edge, lo_of}
use Rattle.loc_laws_order.specs.Laws.{last_that}
use Rattle.loc_status.specs.{declared.status.Beside.Beside, Lists.IsNextBelow}
use Rattle.loc_status.specs.Meaning.{StatusMeaning, KeepsSealed}
use Rattle.loc_sweep.specs.Line.{IsChainOf, IsBegun, reaches, goes_past}

-- the status before corner c: its list holds the edges that reach the corner, and it inserted those that begin before it
pub record IsBefore (t : Table) (c : ℕ) (m : StatusMeaning) : Type 0 where
  pub list : IsChainOf t (c - 1) (reaches t c) m.list
  pub begun : IsBegun t c m.inserted
  pub balance : m.inserted ≡ m.removed + length m.list
  pub in_range : m.past_greatest ≤ length t.ends

-- the edges that end at corner c are gone
pub record Leaves (t : Table) (c : ℕ) (old new : StatusMeaning) : Type 0 where
  pub list : IsChainOf t c (goes_past t c) new.list
  pub kept : KeepsSealed old new
  pub inserted : new.inserted ≡ old.inserted
  pub balance : new.removed + length new.list ≡ old.removed + length old.list
  pub past_greatest : new.past_greatest ≡ old.past_greatest

-- those that begin there have come
pub record Comes (t : Table) (c : ℕ) (old new : StatusMeaning) : Type 0 where
  pub list : IsChainOf t c (alive_at t (corner t c)) new.list
  pub kept : KeepsSealed old new
  pub begun : IsBegun t (c + 1) new.inserted
  pub balance : new.inserted + length old.list ≡ old.inserted + length new.list
  pub removed : new.removed ≡ old.removed
  pub in_range : new.past_greatest ≤ length t.ends

-- the edges just below those that begin at corner c are noted, and what was noted of others is as it was
pub record AreNextBelow (t : Table) (c : ℕ) (list : List ℕ) (old new : List (Option ℕ)) : Type 0 where
  pub as_many : length new ≡ length old
  pub are : (e : ℕ) → e < length t.ends → lo_of t e ≡ c → IsNextBelow e list (get_or new e None)
  pub others : (e : ℕ) → lo_of t e ≢ c → get_or new e None ≡ get_or old e None

-- where the edges are known between which corner c lies in the list, the lower one is the last that has the corner above it
abbrev pub LiesAbove : Table → ℕ → List ℕ → Option Beside → Type 0
LiesAbove t c list between = IfSome between (λ beside. beside.below ≡ last_that (λ e. is_above (edge t e) (corner t c)) list)

-- what was noted up to corner c, where the lists of the corners so far are these: the floor of each corner, and the edge just below each edge begun
pub record IsNoted (t : Table) (c : ℕ) (lists : List (List ℕ)) (of_corner of_edge : List (Option ℕ)) : Type 0 where
  pub as_many_lists : length lists ≡ c
  pub lists_are : (i : ℕ) → i < c → IsChainOf t i (alive_at t (corner t i)) (get_or lists i [])
  pub as_many_corners : length of_corner ≡ c
  pub corners_are : (i : ℕ) → i < c → get_or of_corner i None ≡ last_that (λ e. is_above (edge t e) (corner t i)) (get_or lists i [])
  pub as_many_edges : length of_edge ≡ length t.ends
  pub edges_are : (e : ℕ) → e < length t.ends → lo_of t e < c → IsNextBelow e (get_or lists (lo_of t e) []) (get_or of_edge e None)

-- the status tells these lists as sealed, where it tells any, and nothing was done since
pub record HasSealed (m : StatusMeaning) (lists : List (List ℕ)) : Type 0 where
  pub count : m.sealed ≡ length lists
  pub told : IfSome m.sealed_lists (λ sealed. sealed ≡ lists)
  pub is_changed : m.is_changed ≡ false
