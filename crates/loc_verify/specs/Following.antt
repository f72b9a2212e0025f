-- A cover list by the one just below it: `IsNext`.
use Rattle.std.specs.Prelude.{ℕ, Option, nat_lt, get_or, []}
use Rattle.loc_spec_plane.specs.{Lists.IsRisingListOf, Lists.exactly_one, Lists.is_in, Tables.Table}
use Rattle.loc_cover.specs.{Exchanges.is_marked_odd, Legends.LegendRows, Legends.list_above, Legends.list_over}

-- the list that an edge names is the one that the edge below names, with the features exchanged that have an odd mark on the edge
abbrev pub IsNext : Table → LegendRows → Option ℕ → ℕ → Type 0
IsNext t rows below e = IsRisingListOf nat_lt (λ f. exactly_one (is_marked_odd (get_or t.marks e []) f) (is_in f (list_over rows below))) (list_above rows e)
