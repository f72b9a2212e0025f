use Rattle.std.proofs.Common.{◌≡◌, Bool, take}
use Rattle.std.specs.List.{list_any}
use Rattle.loc_spec_plane.specs.Points.{Point}
use Rattle.loc_laws_noding.specs.Laws.{ends_of}
use Rattle.loc_edges.proofs.tables.ends.Given as goal

-- the ends of the edges before stand there
abbrev pub invariant-loop-n : goal.invariant-loop-n
invariant-loop-n l = (test : Point → Bool) → list_any test l.points.items ≡ list_any test (ends_of (take l.n l.edges))
