-- The next and the face of each half-edge, computed from a table. The words:
--   within               a value for numbers below n, and 0 past them
--   turn_list, next_at   the edges at a corner, against the clock, and the half-edge behind another
--   floor_at             the highest of the edges under a point
--   face_from, face_at   the face of a half-edge, by so many floors
--   shown_at             the number that is shown for the face above a floor
use Rattle.std.specs.Prelude.{ℕ, zero, suc, Bool, true, false, List, length, filter, fold, nat_lt, Option, Some, None, if◌then◌else◌}
use Rattle.loc_spec_plane.specs.{Lists.before_round, Lists.sorted_set, Points.Point}
use Rattle.loc_spec_plane.specs.Tables.{Table, corner, edge_numbers, ends_at}
use Rattle.loc_spec_plane.specs.HalfEdges.{comes_round, edge_of, half_edge_count, leaving, target}
use Rattle.loc_spec_plane.specs.Faces.{face_above, hangs, least_corner, outer_number}
use Rattle.loc_place.specs.Found.{with_edge}

-- f of a number below n, and 0 of another
abbrev pub within : ℕ → (ℕ → ℕ) → ℕ → ℕ
within n f h = if nat_lt h n then f h else 0

-- the edges at corner c, against the clock
abbrev pub turn_list : Table → ℕ → List ℕ
turn_list t c = sorted_set (comes_round t c) (filter (ends_at t c) (edge_numbers t))

-- the next of a half-edge leaves by the edge before its own, going round the corner at which it arrives
unfoldable pub next_at : Table → ℕ → ℕ
next_at t h = within (half_edge_count t) (λ h. leaving t (target t h) (before_round (edge_of h) (turn_list t (target t h)))) h

-- the highest of the edges alive at p that have p above them
abbrev pub floor_at : Table → Point → Option ℕ
floor_at t p = fold (with_edge t p) None (edge_numbers t)

-- the face of a half-edge, where the floors of least corners lead to an outer cycle, or to none, in less than so many steps
abbrev pub face_from : Table → ℕ → ℕ → ℕ
face_from t zero h = 0
face_from t (suc steps) h =
    if hangs t (next_at t) h then face_above (face_from t steps) (floor_at t (corner t (least_corner t (next_at t) h))) else outer_number t (next_at t) h

-- the face of a half-edge: each floor begins before its corner, so there are no more steps than corners
unfoldable pub face_at : Table → ℕ → ℕ
face_at t h = within (half_edge_count t) (face_from t (length t.corners)) h

-- the number that is shown for the face above a floor, where numbers are asked for
abbrev pub shown_at : Bool → Table → Option ℕ → Option ℕ
shown_at false t floor = None
shown_at true t floor = Some (face_above (face_at t) floor)
