use Rattle.std.proofs.Common.{◌≡◌, sym, subst, arith}
use Rattle.std.specs.Prelude.{IfOk}
use Rattle.loc_spec_plane.specs.Tables.{Table, NoConflict}
use Rattle.loc_spec_valid.specs.Breaches.{part_count}
use Rattle.loc_faces.specs.Subdivision.{face_at, next_at}
use Rattle.loc_valid.proofs.parts.parts_of_layer.Goals as goal

pub count_parts-requires-clause-apart : goal.count_parts-requires-clause-apart
count_parts-requires-clause-apart c = subst NoConflict (sym c.in_ok-table.ensures.table) c.requires.apart

pub count_parts-requires-clause-one_feature : goal.count_parts-requires-clause-one_feature
count_parts-requires-clause-one_feature c = omega (arith, c.in_ok-table.ensures.features, c.requires.one_layer)

pub returns-clause-parts : goal.returns-clause-parts
returns-clause-parts c = subst (λ (t : Table). IfOk c.count_parts.result (λ parts. parts ≡ part_count t (next_at t) (face_at t))) c.in_ok-table.ensures.table c.count_parts.ensures.parts

pub returns-clause-refused : goal.returns-clause-refused
returns-clause-refused c = c.count_parts.ensures.refused
