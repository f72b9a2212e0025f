-- What a sweep over a table leaves, and what it shows where it stops: `IsSwept` and `IsShown`.
use Rattle.std.specs.Prelude.{◌≡◌, ℕ, ◌<◌, ◌≤◌, false, length, IfSome, IsTrue}
use Rattle.loc_spec_plane.specs.{Points.conflict, Tables.Table, Tables.edge}
use Rattle.loc_geom.specs.{declared.kinds.Meeting.Meeting, Answers.IsMeeting}
use Rattle.loc_status.specs.{Meaning.StatusMeaning, Versions.AreVersions}
use Rattle.loc_sweep.specs.declared.fault.SweepFault.{SweepFault}
use Rattle.loc_sweep.specs.declared.fault.SweepFault.TheVariants.{Conflict, NoMemory}

-- a list was sealed for each corner, and each edge was inserted and removed
pub record IsSwept (t : Table) (m : StatusMeaning) : Type 0 where
  pub sealed : m.sealed ≡ length t.corners
  pub versions : IfSome m.sealed_lists (AreVersions t)
  pub inserted : m.inserted ≡ length t.ends
  pub removed : m.removed ≡ length t.ends
  pub in_range : m.past_greatest ≤ length t.ends
  pub is_changed : m.is_changed ≡ false

-- the two edges conflict, and so they meet; the lesser number is the first
pub record AreInConflict (t : Table) (a b : ℕ) (meeting : Meeting) : Type 0 where
  pub in_order : a < b
  pub in_range : b < length t.ends
  pub conflict : IsTrue (conflict (edge t a) (edge t b))
  pub meets : IsMeeting (edge t a) (edge t b) meeting

-- what a fault shows; want of memory may come at any time
abbrev pub IsShown : Table → SweepFault → Type 0
IsShown t (Conflict a b meeting) = AreInConflict t a b meeting
IsShown t NoMemory = Unit {0}
