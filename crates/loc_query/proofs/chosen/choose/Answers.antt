use Rattle.std.proofs.Common.{◌∙◌, ap, sym}
use Rattle.std.proofs.lemmas.Result.{err_from_is_err_and}
use Rattle.loc_course.proofs.Going.{lacks_on}
use Rattle.loc_query.specs.Chosen.{index_of}
use Rattle.loc_query.proofs.chosen.choose.Goals as goal

pub returns-in_err-plane-in-Scan-clause-goes_on : goal.returns-in_err-plane-in-Scan-clause-goes_on
returns-in_err-plane-in-Scan-clause-goes_on c next m =
    let p = err_from_is_err_and c.from_residual.result c.from_residual.ensures.1 in
    rw (p.1, p.2) (c.in_err-plane-in-Scan.ensures.goes_on next m)

pub returns-in_err-plane-in-Tree-clause-goes_on : goal.returns-in_err-plane-in-Tree-clause-goes_on
returns-in_err-plane-in-Tree-clause-goes_on c next m =
    let p = err_from_is_err_and c.from_residual-in_err-plane-in-Tree.result c.from_residual-in_err-plane-in-Tree.ensures.1 in
    rw (p.1, p.2) (c.in_err-plane-in-Tree.ensures.goes_on next m)

pub returns-in_err-plane-in-Trap-clause-goes_on : goal.returns-in_err-plane-in-Trap-clause-goes_on
returns-in_err-plane-in-Trap-clause-goes_on c next m =
    let p = err_from_is_err_and c.from_residual-in_err-plane-in-Trap.result c.from_residual-in_err-plane-in-Trap.ensures.1 in
    rw (p.1, p.2) (c.in_err-plane-in-Trap.ensures.goes_on next m)

pub returns-in_err-with_traps-in-Trap-clause-goes_on : goal.returns-in_err-with_traps-in-Trap-clause-goes_on
returns-in_err-with_traps-in-Trap-clause-goes_on c next m = lacks_on _ m _ c.from_residual-in_err-with_traps-in-Trap.result c.from_residual-in_err-with_traps-in-Trap.ensures.1

pub returns-in_ok-plane-in-Tree-clause-asked : goal.returns-in_ok-plane-in-Tree-clause-asked
returns-in_ok-plane-in-Tree-clause-asked c = ap index_of c.with_tree.ensures.status ∙ sym c.in-Tree.is

pub returns-in_ok-plane-in-Scan-clause-map : goal.returns-in_ok-plane-in-Scan-clause-map
returns-in_ok-plane-in-Scan-clause-map c = rw (c.with_index.ensures.table, c.with_index.ensures.legend) c.in_ok-plane-in-Scan.ensures.map

pub returns-in_ok-plane-in-Scan-clause-floors : goal.returns-in_ok-plane-in-Scan-clause-floors
returns-in_ok-plane-in-Scan-clause-floors c = rw (c.with_index.ensures.table, c.with_index.ensures.floors) c.in_ok-plane-in-Scan.ensures.floors

pub returns-in_ok-plane-in-Tree-clause-map : goal.returns-in_ok-plane-in-Tree-clause-map
returns-in_ok-plane-in-Tree-clause-map c = rw (c.with_tree.ensures.table, c.with_tree.ensures.legend) c.in_ok-plane-in-Tree.ensures.map

pub returns-in_ok-plane-in-Tree-clause-floors : goal.returns-in_ok-plane-in-Tree-clause-floors
returns-in_ok-plane-in-Tree-clause-floors c = rw (c.with_tree.ensures.table, c.with_tree.ensures.floors) c.in_ok-plane-in-Tree.ensures.floors

pub returns-in_ok-with_traps-in-Trap-clause-map : goal.returns-in_ok-with_traps-in-Trap-clause-map
returns-in_ok-with_traps-in-Trap-clause-map c = rw (c.in_ok-with_traps-in-Trap.ensures.table, c.in_ok-with_traps-in-Trap.ensures.legend) c.in_ok-plane-in-Trap.ensures.map

pub returns-in_ok-with_traps-in-Trap-clause-floors : goal.returns-in_ok-with_traps-in-Trap-clause-floors
returns-in_ok-with_traps-in-Trap-clause-floors c = rw (c.in_ok-with_traps-in-Trap.ensures.table, c.in_ok-with_traps-in-Trap.ensures.floors) c.in_ok-plane-in-Trap.ensures.floors
