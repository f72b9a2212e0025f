-- Lists in parentheses as they are read from the left, member by member. The words: `listed_at`, `wide_ring_at`, `wide_polygon_at`, `IsRead`, `IsUnread`,
-- `IsFurther`.
use Rattle.std.specs.Prelude.{◌≡◌, ◌≢◌, ℕ, false, List, length, Option, Some, None}
use Rattle.loc_spec_text.specs.declared.TextFault.{TextFault}
use Rattle.loc_spec_text.specs.declared.TextFault.TheVariants.{NoMemory, Syntax}
use Rattle.loc_spec_text.specs.Geometry.{Symbol, Polygon, Ring, WidePoint, symbols}
use Rattle.loc_spec_text.specs.Reader.{Reader, enclosed_at, list_at, members_at, wide_more, wide_point_at}
use Rattle.loc_wkt.specs.Passes.{first_two, has_two}

-- the members of a list behind its open mark
abbrev pub listed_at : {X : Type 0} → Reader X → Reader (List X)
listed_at read ps = members_at read (length ps) ps

-- a ring of points of two, three or four numbers
abbrev pub wide_ring_at : Reader (Ring WidePoint)
wide_ring_at = enclosed_at wide_point_at

-- a polygon of such rings
abbrev pub wide_polygon_at : Reader (Polygon WidePoint)
wide_polygon_at = list_at wide_ring_at

-- The reader reads something at the front of a text, of which this holds, and leaves the rest.
pub record IsRead {X : Type 0} (read : Reader X) (text rest : List ℕ) (Meaning : X → Type 0) : Type 0 where
  pub member : X
  pub gives : read (symbols text) ≡ Some (member, symbols rest)
  pub meaning : Meaning member

-- Where memory is not wanting, the fault is one of syntax, since there is nothing to read.
abbrev pub IsUnread : {X : Type 0} → TextFault → Option X → Type 0
IsUnread fault read = fault ≢ NoMemory → (fault ≡ Syntax) × (read ≡ None)

-- One or two numbers stand behind the first two of a point.
pub record IsFurther (x y : List ℕ) (ps rest : List Symbol) : Type 0 where
  pub member : WidePoint
  pub gives : wide_more x y ps ≡ Some (member, rest)
  pub front : first_two member ≡ (x, y)
  pub further : has_two member ≡ false
