use Rattle.std.proofs.Common.{[], map}
use Rattle.std.specs.{Prelude.None, Int.w32, List.last_or}
use Rattle.loc_spec_index.specs.IndexFile.{number}
use Rattle.loc_file.specs.Readings.{stop}
use Rattle.loc_file.proofs.Steps.{handed, wrong-along, read-along, fault-first}
use Rattle.loc_file.proofs.CoverRows.{members-stop, holds-is, cover-stop, cover-read}
use Rattle.loc_file.proofs.covers.next_cover.Goals as goal

pub returns-in_err-count-clause-err : goal.returns-in_err-count-clause-err
returns-in_err-count-clause-err c = handed c.from_residual.result _ _ c.from_residual.ensures.1 (stop [] _ tt (fault-first _ _ (wrong-along (λ b. number w32 b 0) c.bound_of.ensures (c.in_err-count.ensures.err 0))))

pub returns-in_err-list-clause-err : goal.returns-in_err-list-clause-err
returns-in_err-list-clause-err c = handed c.from_residual-in_err-list.result _ _ c.from_residual-in_err-list.ensures.1 (members-stop c.args.features c.args.members c.args.row _ c.in_ok-count.count (read-along (λ b. number w32 b c.in_ok-count.count) c.bound_of.ensures c.in_ok-count.ensures.ok) c.in_err-list.ensures.err)

pub returns-in_err-in_order-clause-err : goal.returns-in_err-in_order-clause-err
returns-in_err-in_order-clause-err c =
    let last = last_or None (map (λ v. v.items) c.args.others.now) in
    let is = holds-is c.args.features c.args.members c.args.row last c.in_ok-list.rises _ c.in_ok-list.list.items _ c.is_in_order-holds.ensures c.in_ok-list.ensures.rising c.as_slice.ensures.value in
    handed c.from_residual-in_err-in_order.result _ _ c.from_residual-in_err-in_order.ensures.1 (cover-stop c.args.features c.args.members c.args.row last c.in_ok-count.count c.in_ok-list.list.items _ (read-along (λ b. number w32 b c.in_ok-count.count) c.bound_of.ensures c.in_ok-count.ensures.ok) c.in_ok-list.ensures.ok is c.in_err-in_order.ensures.err)

pub returns-clause-ok : goal.returns-clause-ok
returns-clause-ok c =
    let last = last_or None (map (λ v. v.items) c.args.others.now) in
    let is = holds-is c.args.features c.args.members c.args.row last c.in_ok-list.rises _ c.in_ok-list.list.items _ c.is_in_order-holds.ensures c.in_ok-list.ensures.rising c.as_slice.ensures.value in
    cover-read c.args.features c.args.members c.args.row last c.in_ok-count.count c.in_ok-list.list.items _ (read-along (λ b. number w32 b c.in_ok-count.count) c.bound_of.ensures c.in_ok-count.ensures.ok) c.in_ok-list.ensures.ok is c.in_ok-in_order.ensures.ok
