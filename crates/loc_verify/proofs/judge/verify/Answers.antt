use Rattle.std.proofs.Common.{arith}
use Rattle.loc_file.proofs.Steps.{handed}
use Rattle.loc_verify.specs.Judged.{IsJudged}
use Rattle.loc_verify.proofs.Ranked.{judged, none_below}
use Rattle.loc_verify.proofs.judge.verify.Goals as goal

pub returns-in_err-judge_corners-clause-first : goal.returns-in_err-judge_corners-clause-first
returns-in_err-judge_corners-clause-first c =
    handed c.from_residual.result _ (IsJudged c.args.held.now.content) c.from_residual.ensures.1
    (judged c.args.held.now.content 0 (λ other there less. omega (arith, less)) c.in_err-judge_corners.field-0.0 c.in_err-judge_corners.ensures.fault)

pub returns-in_err-judge_edges-clause-first : goal.returns-in_err-judge_edges-clause-first
returns-in_err-judge_edges-clause-first c =
    handed c.from_residual-in_err-judge_edges.result _ (IsJudged c.args.held.now.content) c.from_residual-in_err-judge_edges.ensures.1
    (judged c.args.held.now.content 1 (none_below c.args.held.now.content 1 (omega arith) (λ l. c.in_ok-judge_corners.ensures.ok) (λ l. absurd (omega (arith, l))) (λ l. absurd (omega (arith, l))) (λ l. absurd (omega (arith, l))) (λ l. absurd (omega (arith, l))) (λ l. absurd (omega (arith, l))) (λ l. absurd (omega (arith, l))) (λ l. absurd (omega (arith, l)))) c.in_err-judge_edges.field-0.0 c.in_err-judge_edges.ensures.fault)

pub returns-in_err-judge_marks-clause-first : goal.returns-in_err-judge_marks-clause-first
returns-in_err-judge_marks-clause-first c =
    handed c.from_residual-in_err-judge_marks.result _ (IsJudged c.args.held.now.content) c.from_residual-in_err-judge_marks.ensures.1
    (judged c.args.held.now.content 2 (none_below c.args.held.now.content 2 (omega arith) (λ l. c.in_ok-judge_corners.ensures.ok) (λ l. c.in_ok-judge_edges.ensures.ok) (λ l. absurd (omega (arith, l))) (λ l. absurd (omega (arith, l))) (λ l. absurd (omega (arith, l))) (λ l. absurd (omega (arith, l))) (λ l. absurd (omega (arith, l))) (λ l. absurd (omega (arith, l)))) c.in_err-judge_marks.field-0.0 c.in_err-judge_marks.ensures.fault)

pub returns-in_err-index-clause-first : goal.returns-in_err-index-clause-first
returns-in_err-index-clause-first c =
    handed c.from_residual-in_err-index.result _ (IsJudged c.args.held.now.content) c.from_residual-in_err-index.ensures.1
    (judged c.args.held.now.content 3 (none_below c.args.held.now.content 3 (omega arith) (λ l. c.in_ok-judge_corners.ensures.ok) (λ l. c.in_ok-judge_edges.ensures.ok) (λ l. c.in_ok-judge_marks.ensures.ok) (λ l. absurd (omega (arith, l))) (λ l. absurd (omega (arith, l))) (λ l. absurd (omega (arith, l))) (λ l. absurd (omega (arith, l))) (λ l. absurd (omega (arith, l)))) c.in_err-index.field-0.0 c.in_err-index.ensures.fault)

pub returns-clause-ok : goal.returns-clause-ok
returns-clause-ok c = c.judge_swept-outcome.ensures.ok

pub returns-clause-first : goal.returns-clause-first
returns-clause-first c = c.judge_swept-outcome.ensures.first
