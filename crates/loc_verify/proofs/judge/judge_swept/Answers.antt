use Rattle.std.proofs.{Common.arith, lemmas.Result.IfErr-weaker, lemmas.Result.on_ok_weaker}
use Rattle.loc_file.proofs.Steps.{handed}
use Rattle.loc_verify.specs.Judged.{IsFaultOf, IsJudged}
use Rattle.loc_verify.proofs.Ranked.{judged, none_below}
use Rattle.loc_verify.proofs.judge.judge_swept.Goals as goal

pub returns-in_err-judge_floors-clause-first : goal.returns-in_err-judge_floors-clause-first
returns-in_err-judge_floors-clause-first c =
    handed c.from_residual.result _ (IsJudged c.args.held.now.content) c.from_residual.ensures.1
    (judged c.args.held.now.content 4 (none_below c.args.held.now.content 4 (omega arith) (λ l. c.requires.ended) (λ l. c.requires.marked) (λ l. c.requires.even) (λ l. c.requires.apart) (λ l. absurd (omega (arith, l))) (λ l. absurd (omega (arith, l))) (λ l. absurd (omega (arith, l))) (λ l. absurd (omega (arith, l)))) c.in_err-judge_floors.field-0.0 c.in_err-judge_floors.ensures.fault)

pub returns-in_err-judge_covers-clause-first : goal.returns-in_err-judge_covers-clause-first
returns-in_err-judge_covers-clause-first c =
    handed c.from_residual-in_err-judge_covers.result _ (IsJudged c.args.held.now.content) c.from_residual-in_err-judge_covers.ensures.1
    (judged c.args.held.now.content 5 (none_below c.args.held.now.content 5 (omega arith) (λ l. c.requires.ended) (λ l. c.requires.marked) (λ l. c.requires.even) (λ l. c.requires.apart) (λ l. c.in_ok-judge_floors.ensures.ok) (λ l. absurd (omega (arith, l))) (λ l. absurd (omega (arith, l))) (λ l. absurd (omega (arith, l)))) c.in_err-judge_covers.field-0.0 c.in_err-judge_covers.ensures.fault)

pub returns-in_err-judge_lists-clause-first : goal.returns-in_err-judge_lists-clause-first
returns-in_err-judge_lists-clause-first c =
    handed c.from_residual-in_err-judge_lists.result _ (IsJudged c.args.held.now.content) c.from_residual-in_err-judge_lists.ensures.1
    (judged c.args.held.now.content 6 (none_below c.args.held.now.content 6 (omega arith) (λ l. c.requires.ended) (λ l. c.requires.marked) (λ l. c.requires.even) (λ l. c.requires.apart) (λ l. c.in_ok-judge_floors.ensures.ok) (λ l. c.in_ok-judge_covers.ensures.ok) (λ l. absurd (omega (arith, l))) (λ l. absurd (omega (arith, l)))) c.in_err-judge_lists.field-0.0 c.in_err-judge_lists.ensures.fault)

pub returns-in_err-judge_sources-clause-first : goal.returns-in_err-judge_sources-clause-first
returns-in_err-judge_sources-clause-first c =
    handed c.from_residual-in_err-judge_sources.result _ (IsJudged c.args.held.now.content) c.from_residual-in_err-judge_sources.ensures.1
    (judged c.args.held.now.content 7 (none_below c.args.held.now.content 7 (omega arith) (λ l. c.requires.ended) (λ l. c.requires.marked) (λ l. c.requires.even) (λ l. c.requires.apart) (λ l. c.in_ok-judge_floors.ensures.ok) (λ l. c.in_ok-judge_covers.ensures.ok) (λ l. c.in_ok-judge_lists.ensures.ok) (λ l. absurd (omega (arith, l)))) c.in_err-judge_sources.field-0.0 c.in_err-judge_sources.ensures.fault)

pub returns-clause-ok : goal.returns-clause-ok
returns-clause-ok c = on_ok_weaker c.judge_versions.result (λ versions. record {
  ended = c.requires.ended;
  marked = c.requires.marked;
  even = c.requires.even;
  apart = c.requires.apart;
  floors = c.in_ok-judge_floors.ensures.ok;
  covers = c.in_ok-judge_covers.ensures.ok;
  named = c.in_ok-judge_lists.ensures.ok;
  sources = c.in_ok-judge_sources.ensures.ok;
  versions = versions;
}) c.judge_versions.ensures.ok

pub returns-clause-first : goal.returns-clause-first
returns-clause-first c =
    let h = c.args.held.now.content in
    IfErr-weaker c.judge_versions.result (IsFaultOf h 8) (IsJudged h) (judged h 8 (none_below h 8 (omega arith) (λ l. c.requires.ended) (λ l. c.requires.marked) (λ l. c.requires.even) (λ l. c.requires.apart) (λ l. c.in_ok-judge_floors.ensures.ok) (λ l. c.in_ok-judge_covers.ensures.ok) (λ l. c.in_ok-judge_lists.ensures.ok) (λ l. c.in_ok-judge_sources.ensures.ok)))
    c.judge_versions.ensures.fault
