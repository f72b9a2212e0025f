-- What a look at an edge shows. The word: `IsLook`.
use Rattle.std.specs.Prelude.{ℕ, IsTrue, not}
use Rattle.loc_spec_plane.specs.{Points.Point, Points.lies_on, Tables.Table, Tables.edge}
use Rattle.loc_place.specs.Found.{is_under}
use Rattle.loc_scan.specs.declared.edges.Look.{Look}
use Rattle.loc_scan.specs.declared.edges.Look.TheVariants.{On, Under, Neither}

-- p lies on edge e, or the edge is alive under p, or neither
abbrev pub IsLook : Table → Point → ℕ → Look → Type 0
IsLook t p e On = IsTrue (lies_on (edge t e) p)
IsLook t p e Under = IsTrue (not (lies_on (edge t e) p)) × IsTrue (is_under t p e)
IsLook t p e Neither = IsTrue (not (lies_on (edge t e) p)) × IsTrue (not (is_under t p e))
