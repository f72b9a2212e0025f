-- How many extras are in use in nodes that were not copied: `in_use`. It pays for the copies to come.
use Rattle.std.specs.Prelude.{ℕ, ◌+◌, Bool, true, false, cond, ◌&&◌, not, List, [], ◌∷◌, Option, None, Some}
use Rattle.loc_pool.specs.{declared.Link.Link, declared.Extra.Extra, Maps.Map, Rows.Row}
use Rattle.loc_persist.specs.Present.{is_among}

-- whether an extra is there
abbrev pub is_used : Option Extra → Bool
is_used None = false
is_used (Some extra) = true

-- the nodes whose extra is in use, but for those that were copied
unfoldable pub in_use : List Link → Map Row → ℕ
in_use copied [] = 0
in_use copied (c ∷ cs) = cond (is_used c.1.extra && not (is_among copied c.0)) 1 0 + in_use copied cs
