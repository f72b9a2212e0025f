-- The edges that a span meets and that are alive at its low point, from the lowest to the highest. The word: `run_at`.
use Rattle.std.specs.Prelude.{ℕ, List, filter}
use Rattle.loc_spec_plane.specs.{Lists.sorted_set, Points.Point, Tables.Table, Tables.edge_numbers, Places.lower_of}
use Rattle.loc_spec_plane.specs.Spans.{is_on_line}

-- the middle part of the list of the edges met
unfoldable pub run_at : Table → Point → Point → List ℕ
run_at t low high = sorted_set (lower_of t) (filter (is_on_line t low high) (edge_numbers t))
