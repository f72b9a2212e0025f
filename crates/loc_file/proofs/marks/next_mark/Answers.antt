use Rattle.std.proofs.Common.{[], false, refl}
use Rattle.loc_spec_index.specs.{declared.Part.TheVariants.Marks, IndexFile.mark_row, IndexFile.order}
use Rattle.loc_file.specs.Readings.{stop, two}
use Rattle.loc_file.proofs.Steps.{handed, stop-within, wrong-along, read-none, fault-behind, fault-first, fault-next}
use Rattle.loc_file.proofs.marks.next_mark.Goals as goal

pub returns-in_err-edge-clause-err : goal.returns-in_err-edge-clause-err
returns-in_err-edge-clause-err c =
    handed c.from_residual.result _ _ c.from_residual.ensures.1
    (stop-within (mark_row c.args.edges c.args.features c.args.row c.args.last) (two c.args.edges c.args.features) [] (λ ns. (ns.0, record { feature = ns.1; odd = false })) _ (λ ns. refl) (read-none _) c.in_err-edge.ensures.err)

pub returns-in_err-odd-clause-err : goal.returns-in_err-odd-clause-err
returns-in_err-odd-clause-err c =
    handed c.from_residual-in_err-odd.result _ _ c.from_residual-in_err-odd.ensures.1
    (stop (c.in_ok-edge.edge, record { feature = c.in_ok-edge.feature; odd = false }) _ tt
    (fault-behind (two c.args.edges c.args.features (c.in_ok-edge.edge, c.in_ok-edge.feature)) _ c.in_ok-edge.ensures.ok (fault-first _ _ (c.in_err-odd.ensures.err 0))))

pub returns-in_err-in_order-clause-err : goal.returns-in_err-in_order-clause-err
returns-in_err-in_order-clause-err c =
    handed c.from_residual-in_err-in_order.result _ _ c.from_residual-in_err-in_order.ensures.1
    (stop (c.in_ok-edge.edge, record { feature = c.in_ok-edge.feature; odd = c.in_ok-odd.odd }) _ tt
    (fault-behind (two c.args.edges c.args.features (c.in_ok-edge.edge, c.in_ok-edge.feature)) _ c.in_ok-edge.ensures.ok
    (fault-next _ _ c.in_ok-odd.ensures.ok (fault-first _ _ (wrong-along (order Marks c.args.row) c.follows.ensures c.in_err-in_order.ensures.err)))))
