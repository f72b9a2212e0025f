use Rattle.std.proofs.Common.{map, ap, ◌∙◌, arith}
use Rattle.std.specs.{Prelude.None, List.last_or}
use Rattle.loc_spec_index.specs.IndexFile.{cover_row}
use Rattle.loc_file.proofs.Steps.{handed, unheld, stop-along, row-along}
use Rattle.std.proofs.lemmas.List.{map-append}
use Rattle.loc_file.proofs.CoverRows.{covers-more, covers-stop}
use Rattle.loc_file.proofs.covers.read_covers.Goals as goal

pub returns-in_err-list-clause-err : goal.returns-in_err-list-clause-err
returns-in_err-list-clause-err c =
    handed c.from_residual.result _ _ c.from_residual.ensures.1 (covers-stop c.args.features _ _ _ _ c.loop-row.invariant c.loop-row-test.true
    (stop-along (cover_row c.args.features c.loop-row.members c.loop-row.row) (ap (λ ls. last_or None (map (λ v. v.items) ls)) c.as_slice.ensures.value) c.in_err-list.ensures.err))

pub returns-in_err-keep-clause-err : goal.returns-in_err-keep-clause-err
returns-in_err-keep-clause-err c = unheld _ _ _ c.from_residual-in_err-keep.result _ c.from_residual-in_err-keep.ensures.1 c.in_err-keep.ensures.err

pub loop-row-preserved : goal.loop-row-preserved
loop-row-preserved c =
    covers-more c.args.features _ _ _ _ _ _ (omega (arith, c.in_ok-list.list.ok.0, c.len.ensures)) c.loop-row.invariant
    (row-along (λ last. cover_row c.args.features c.loop-row.members c.loop-row.row last c.in_ok-list.list.items) (ap (λ ls. last_or None (map (λ v. v.items) ls)) c.as_slice.ensures.value) c.in_ok-list.ensures.ok)
    c.in_ok-list.ensures.few (ap (map (λ v. v.items)) c.in_ok-keep.ensures.ok ∙ map-append _ _ _)
