use Rattle.std.proofs.Common.{◌≡◌, Bool, false, ◌&&◌, ◌-◌, ◌*◌, List, length, get_or, ◌∙◌, ap, ap₂, arith}
use Rattle.std.specs.Prelude.{◌==◌, count_by}
use Rattle.std.specs.List.{list_any, range_with_len}
use Rattle.std.proofs.{lemmas.List.FromFn.length-range_with_len, lemmas.List.Sums.count_by-le-length}
use Rattle.loc_spec_plane.specs.{Lists.is_in, Lists.numbers, Tables.edge_numbers, HalfEdges.half_edge_count}
use Rattle.loc_spec_plane.specs.{Covers.cover_above, Faces.face_count, Faces.leads_face}
use Rattle.loc_spec_valid.specs.Breaches.{part_count}
use Rattle.loc_place.specs.Planar.{IsPlanar}
use Rattle.loc_half.specs.HalfEdgeLists.{next_in}
use Rattle.loc_faces.specs.FaceLists.{face_in}
use Rattle.loc_faces.proofs.Computed.{face_same, next_same}
use Rattle.loc_valid.proofs.Covered.{count_agree}
use Rattle.loc_valid.proofs.parts.count_parts.Goals as goal

pub count_covered-requires-clause-few : goal.count_covered-requires-clause-few
count_covered-requires-clause-few c =
    let t = c.args.table.now in
    let next = next_in c.in_ok-faces.ensures.half in
    let many : c.in_ok-faces.faces.count ≡ face_count t next = c.in_ok-faces.ensures.faces.count in
    omega (arith, ap length c.deref.ensures.value, c.in_ok-covered.ensures.as_many, many, count_by-le-length (leads_face t next) (numbers (half_edge_count t)), length-range_with_len 0 (half_edge_count t), c.law.ensures.small.few_edges)

pub returns-clause-parts : goal.returns-clause-parts
returns-clause-parts c =
    let t = c.args.table.now in
    let half = c.in_ok-faces.ensures.half in
    let halves = c.in_ok-faces.ensures.halves in
    let faces = c.in_ok-faces.faces in
    let are = c.in_ok-faces.ensures.faces in
    let planar : IsPlanar t = record { in_order = c.law.ensures.in_order; apart = c.requires.apart } in
    let many : length c.deref.result.now - 1 ≡ count_by (leads_face t (next_in half)) (numbers (half_edge_count t)) = omega (arith, ap length c.deref.ensures.value, c.in_ok-covered.ensures.as_many, are.count) in
    c.count_covered.ensures
    ∙ (ap₂ (λ (covered : List Bool) n. count_by (λ f. get_or covered f false) (range_with_len 1 n)) c.deref.ensures.value many
    ∙ (count_agree (λ f. get_or c.in_ok-covered.covered.items f false) (λ f. list_any (λ e. (face_in faces (2 * e) == f) && is_in 0 (cover_above t e)) (edge_numbers t)) 1 (count_by (leads_face t (next_in half)) (numbers (half_edge_count t))) (λ f ge lt. c.in_ok-covered.ensures.covered f (omega (arith, lt, are.count)))
    ∙ ap₂ (part_count t) (next_same t planar half halves) (face_same t planar half halves faces are)))
