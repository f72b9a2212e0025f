use Rattle.std.proofs.Common.{rules, ◌≡◌, ◌<◌, ◌∙◌, subst, ap, arith, length, ◌≢◌, ◌+◌, sym, inl, inr}
use Rattle.std.proofs.{lemmas.Result.IfOk-from_err, lemmas.Bool.cases_eq}
use Rattle.loc_spec_index.specs.{TrueIndex.IsTrueVersion, Content.table_in}
use Rattle.loc_sweep.specs.Course.{IsBefore}
use Rattle.loc_spec_plane.specs.{Places.IsVersion, Tables.Table, Tables.NoConflict}
use Rattle.loc_sweep.proofs.Whole.{before_first}
use Rattle.loc_file.proofs.Steps.{handed}
use Rattle.loc_verify.specs.{declared.fault.VerifyFault.TheVariants.NoMemory, Judged.IsFaultOf}
use Rattle.loc_verify.proofs.Ranked.{least_version}
use Rattle.loc_verify.proofs.versions.judge_by_lists.Goals as goal

pub returns-in_err-go_to-clause-fault : goal.returns-in_err-go_to-clause-fault
returns-in_err-go_to-clause-fault c = handed c.from_residual.result NoMemory (IsFaultOf c.args.held.now.content 8) c.from_residual.ensures.1 tt

pub judge_version-requires-clause-in_range : goal.judge_version-requires-clause-in_range
unfolding table_in
judge_version-requires-clause-in_range c = subst (λ k. c.loop-version.version < k) (c.corner_count-version-end.ensures.value ∙ ap (λ (t : Table). length t.corners) c.table-table.ensures) c.loop-version-test.true

pub returns-in_err-judge_version-clause-fault : goal.returns-in_err-judge_version-clause-fault
unfolding table_in
returns-in_err-judge_version-clause-fault c =
    handed c.from_residual-in_err-judge_version.result _ (IsFaultOf c.args.held.now.content 8) c.from_residual-in_err-judge_version.ensures.1
    (least_version c.args.held.now.content c.loop-version.version (subst (λ k. c.loop-version.version < k) (c.corner_count-version-end.ensures.value ∙ ap (λ (t : Table). length t.corners) c.table-table.ensures) c.loop-version-test.true) c.loop-version.invariant.right c.in_err-judge_version.field-0.0 c.in_err-judge_version.ensures.fault)

pub returns-clause-ok : goal.returns-clause-ok
unfolding table_in
returns-clause-ok c = λ i fits.
    (let size : c.corner_count-version-end.result ≡ length c.args.held.now.content.corners = c.corner_count-version-end.ensures.value ∙ ap (λ (t : Table). length t.corners) c.table-table.ensures in
    c.loop-version.invariant.right i (omega (arith, fits, size, c.loop-version-test.false)))

pub go_to-requires-clause-apart : goal.go_to-requires-clause-apart
go_to-requires-clause-apart c = subst NoConflict (sym c.table-table.ensures) c.requires

pub go_to-requires-clause-in_range : goal.go_to-requires-clause-in_range
go_to-requires-clause-in_range c = subst (λ n. c.loop-version.version < n) c.corner_count-version-end.ensures.value c.loop-version-test.true

pub go_to-requires-clause-before : goal.go_to-requires-clause-before
go_to-requires-clause-before c = subst (λ t. IsBefore t c.loop-version.version c.loop-version.status) (sym c.table-table.ensures) c.loop-version.invariant.before

pub returns-in_err-go_to-clause-ok : goal.returns-in_err-go_to-clause-ok
returns-in_err-go_to-clause-ok c = IfOk-from_err _ _ c.from_residual.ensures.0

pub returns-in_err-judge_version-clause-ok : goal.returns-in_err-judge_version-clause-ok
returns-in_err-judge_version-clause-ok c = IfOk-from_err _ _ c.from_residual-in_err-judge_version.ensures.0

pub judge_version-requires-clause-few : goal.judge_version-requires-clause-few
judge_version-requires-clause-few c = omega (arith, ap length c.list.ensures, c.in_ok-go_to.ensures.next.balance, c.in_ok-go_to.ensures.next.begun.within, c.law.ensures.small.few_edges)

pub judge_version-requires-clause-list : goal.judge_version-requires-clause-list
judge_version-requires-clause-list c = subst (IsVersion (table_in c.args.held.now.content) c.loop-version.version) (sym c.list.ensures) (subst (λ t. IsVersion t c.loop-version.version c.go_to.new.status.list) c.table-table.ensures c.in_ok-go_to.ensures.version)

pub loop-version-preserved : goal.loop-version-preserved
loop-version-preserved c = record {
  before = subst (λ t. IsBefore t (c.loop-version.version + 1) c.go_to.new.status) c.table-table.ensures c.in_ok-go_to.ensures.next;
  right = λ j less. elim (cases_eq j c.loop-version.version) [
    | inl same ↦ subst (IsTrueVersion c.args.held.now.content) (sym same) (search rules)
    | inr other ↦ c.loop-version.invariant.right j (let differ : j ≢ c.loop-version.version = other in omega (arith, less, differ))
  ];
}

pub loop-version-init : goal.loop-version-init
loop-version-init c = record { before = (before_first (table_in c.args.held.now.content) c.new-status.result c.new-status.ensures.fresh).0; right = λ j less. absurd (omega (arith, less)) }
