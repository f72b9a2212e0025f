use Rattle.std.proofs.Common.{◌≡◌, [], get_or, map, take}
use Rattle.loc_faces.specs.Subdivision.{face_at, next_at}
use Rattle.loc_spec_groups.specs.Groups.{dissolved_group}
use Rattle.loc_dissolve.specs.Grouping.{ids_of}
use Rattle.loc_dissolve.proofs.dissolving.made_groups.Given as goal

-- the groups before stand there
abbrev pub invariant-loop-n : goal.invariant-loop-n
invariant-loop-n l = l.made.items ≡ map (λ f. dissolved_group next_at face_at l.table (ids_of l.layer) (get_or (ids_of l.layer) f [])) (take l.n l.firsts)
