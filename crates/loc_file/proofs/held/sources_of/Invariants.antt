use Rattle.std.proofs.Common.{◌≡◌, map, take}
use Rattle.loc_file.specs.Told.{told_source}
use Rattle.loc_file.proofs.held.sources_of.Given as goal

-- the sources of the edges before stand there
abbrev pub invariant-loop-edge : goal.invariant-loop-edge
invariant-loop-edge l = l.sources.items ≡ map (told_source l.version) (take l.edge-index l.edges)
