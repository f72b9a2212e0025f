use Rattle.std.proofs.Common.{map, arith}
use Rattle.loc_laws_index.proofs.{AgreeTable.most-small, RightFields.all-hold}
use Rattle.loc_file.specs.Told.{header_row}
use Rattle.loc_file.proofs.Steps.{handed}
use Rattle.loc_file.proofs.Stops.{header-stop, ids-stop, corners-stop, edges-stop, marks-stop, covers-stop, floors-stop, roots-stop, nodes-stop, all-read, all-shaped}
use Rattle.loc_file.proofs.parts.read_parts.Goals as goal

pub returns-in_err-header-clause-err : goal.returns-in_err-header-clause-err
returns-in_err-header-clause-err c = handed c.from_residual.result _ _ c.from_residual.ensures.1 (header-stop c.in_err-header.ensures.err)

pub returns-in_err-ids-clause-err : goal.returns-in_err-ids-clause-err
returns-in_err-ids-clause-err c = handed c.from_residual-in_err-ids.result _ _ c.from_residual-in_err-ids.ensures.1 ((c.in_ok-header.header.version, ids-stop c.in_ok-header.header c.in_ok-header.ensures.ok c.in_err-ids.ensures.err))

pub returns-in_err-corners-clause-err : goal.returns-in_err-corners-clause-err
returns-in_err-corners-clause-err c = handed c.from_residual-in_err-corners.result _ _ c.from_residual-in_err-corners.ensures.1 ((c.in_ok-header.header.version, corners-stop c.in_ok-header.header (map (λ id. id.items) c.in_ok-ids.ids.items) c.in_ok-header.ensures.ok c.in_ok-ids.ensures.ok c.in_err-corners.ensures.err))

pub returns-in_err-edges-clause-err : goal.returns-in_err-edges-clause-err
returns-in_err-edges-clause-err c = handed c.from_residual-in_err-edges.result _ _ c.from_residual-in_err-edges.ensures.1 ((c.in_ok-header.header.version, edges-stop c.in_ok-header.header (map (λ id. id.items) c.in_ok-ids.ids.items) c.in_ok-corners.corners.items c.in_ok-header.ensures.ok c.in_ok-ids.ensures.ok c.in_ok-corners.ensures.ok c.in_err-edges.ensures.err))

pub returns-in_err-marks-clause-err : goal.returns-in_err-marks-clause-err
returns-in_err-marks-clause-err c = handed c.from_residual-in_err-marks.result _ _ c.from_residual-in_err-marks.ensures.1 ((c.in_ok-header.header.version, marks-stop c.in_ok-header.header (map (λ id. id.items) c.in_ok-ids.ids.items) c.in_ok-corners.corners.items c.in_ok-edges.edges.items c.in_ok-header.ensures.ok c.in_ok-ids.ensures.ok c.in_ok-corners.ensures.ok c.in_ok-edges.ensures.ok c.in_err-marks.ensures.err))

pub read_covers-requires : goal.read_covers-requires
read_covers-requires c = let few = (all-hold (header_row c.in_ok-header.header) c.in_ok-header.ensures.ok.right).1.1.1.0 in omega (arith, few)

pub returns-in_err-covers-clause-err : goal.returns-in_err-covers-clause-err
returns-in_err-covers-clause-err c = handed c.from_residual-in_err-covers.result _ _ c.from_residual-in_err-covers.ensures.1 ((c.in_ok-header.header.version, covers-stop c.in_ok-header.header (map (λ id. id.items) c.in_ok-ids.ids.items) c.in_ok-corners.corners.items c.in_ok-edges.edges.items c.in_ok-marks.marks.items c.in_ok-header.ensures.ok c.in_ok-ids.ensures.ok c.in_ok-corners.ensures.ok c.in_ok-edges.ensures.ok c.in_ok-marks.ensures.ok c.in_err-covers.ensures.err))

pub returns-in_err-floors-clause-err : goal.returns-in_err-floors-clause-err
returns-in_err-floors-clause-err c = handed c.from_residual-in_err-floors.result _ _ c.from_residual-in_err-floors.ensures.1 ((c.in_ok-header.header.version, floors-stop c.in_ok-header.header (map (λ id. id.items) c.in_ok-ids.ids.items) c.in_ok-corners.corners.items c.in_ok-edges.edges.items c.in_ok-marks.marks.items (map (λ list. list.items) c.in_ok-covers.covers.items) c.in_ok-header.ensures.ok c.in_ok-ids.ensures.ok c.in_ok-corners.ensures.ok c.in_ok-edges.ensures.ok c.in_ok-marks.ensures.ok c.in_ok-covers.ensures.ok c.in_err-floors.ensures.err))

pub overflow_add-header : goal.overflow_add-header
overflow_add-header c =
    let h = all-hold (header_row c.in_ok-header.header) c.in_ok-header.ensures.ok.right in
    let edges = h.1.1.1.1.1.0 in
    let nodes = h.1.1.1.1.1.1.1.1.0 in
    let most = most-small c.in_ok-header.header.version in
    record { fits = omega (arith, edges, nodes, most) }

pub returns-in_err-roots-clause-err : goal.returns-in_err-roots-clause-err
returns-in_err-roots-clause-err c = handed c.from_residual-in_err-roots.result _ _ c.from_residual-in_err-roots.ensures.1 ((c.in_ok-header.header.version, roots-stop c.in_ok-header.header (map (λ id. id.items) c.in_ok-ids.ids.items) c.in_ok-corners.corners.items c.in_ok-edges.edges.items c.in_ok-marks.marks.items (map (λ list. list.items) c.in_ok-covers.covers.items) c.in_ok-floors.floors.items c.in_ok-header.ensures.ok c.in_ok-ids.ensures.ok c.in_ok-corners.ensures.ok c.in_ok-edges.ensures.ok c.in_ok-marks.ensures.ok c.in_ok-covers.ensures.ok c.in_ok-floors.ensures.ok c.in_err-roots.ensures.err))

pub read_nodes-requires : goal.read_nodes-requires
read_nodes-requires c =
    let h = all-hold (header_row c.in_ok-header.header) c.in_ok-header.ensures.ok.right in
    let edges = h.1.1.1.1.1.0 in
    let nodes = h.1.1.1.1.1.1.1.1.0 in
    let most = most-small c.in_ok-header.header.version in
    omega (arith, edges, nodes, most)

pub returns-in_err-nodes-clause-err : goal.returns-in_err-nodes-clause-err
returns-in_err-nodes-clause-err c = handed c.from_residual-in_err-nodes.result _ _ c.from_residual-in_err-nodes.ensures.1 ((c.in_ok-header.header.version, nodes-stop c.in_ok-header.header (map (λ id. id.items) c.in_ok-ids.ids.items) c.in_ok-corners.corners.items c.in_ok-edges.edges.items c.in_ok-marks.marks.items (map (λ list. list.items) c.in_ok-covers.covers.items) c.in_ok-floors.floors.items c.in_ok-roots.roots.items c.in_ok-header.ensures.ok c.in_ok-ids.ensures.ok c.in_ok-corners.ensures.ok c.in_ok-edges.ensures.ok c.in_ok-marks.ensures.ok c.in_ok-covers.ensures.ok c.in_ok-floors.ensures.ok c.in_ok-roots.ensures.ok c.in_err-nodes.ensures.err))

pub returns-clause-ok : goal.returns-clause-ok
returns-clause-ok c = all-read c.in_ok-header.header (map (λ id. id.items) c.in_ok-ids.ids.items) c.in_ok-corners.corners.items c.in_ok-edges.edges.items c.in_ok-marks.marks.items (map (λ list. list.items) c.in_ok-covers.covers.items) c.in_ok-floors.floors.items c.in_ok-roots.roots.items c.in_ok-nodes.nodes.items c.in_ok-header.ensures.ok c.in_ok-ids.ensures.ok c.in_ok-corners.ensures.ok c.in_ok-edges.ensures.ok c.in_ok-marks.ensures.ok c.in_ok-covers.ensures.ok c.in_ok-floors.ensures.ok c.in_ok-roots.ensures.ok c.in_ok-nodes.ensures.ok

pub returns-clause-shaped : goal.returns-clause-shaped
returns-clause-shaped c = all-shaped c.in_ok-header.header (map (λ id. id.items) c.in_ok-ids.ids.items) c.in_ok-corners.corners.items c.in_ok-edges.edges.items c.in_ok-marks.marks.items (map (λ list. list.items) c.in_ok-covers.covers.items) c.in_ok-floors.floors.items c.in_ok-roots.roots.items c.in_ok-nodes.nodes.items c.in_ok-header.ensures.ok c.in_ok-ids.ensures.ok c.in_ok-corners.ensures.ok c.in_ok-edges.ensures.ok c.in_ok-marks.ensures.ok c.in_ok-covers.ensures.ok c.in_ok-floors.ensures.ok c.in_ok-roots.ensures.ok c.in_ok-nodes.ensures.ok

pub read_floors-requires : goal.read_floors-requires
read_floors-requires c = let edges = (all-hold (header_row c.in_ok-header.header) c.in_ok-header.ensures.ok.right).1.1.1.1.1.0 in let most = most-small c.in_ok-header.header.version in omega (arith, edges, most)
