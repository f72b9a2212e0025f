use Rattle.std.proofs.Common.{◌++◌, ap, refl, sym, length, arith}
use Rattle.std.specs.List.{flat_map}
use Rattle.std.proofs.lemmas.Result.{err_from_is_err_and}
use Rattle.loc_page.proofs.Pages.{put_same}
use Rattle.loc_spec_text.specs.Spans.{numbered}
use Rattle.loc_laws_stab.proofs.MetLists.{later_list}
use Rattle.loc_stab.specs.Runs.{run_at}
use Rattle.loc_stab.proofs.Ranges.{both_ok, put_err, put_ok, stop_err, total_few, two_few}
use Rattle.loc_stab.proofs.Standings.{later_at, met_length, parts_are, passed_more}
use Rattle.loc_stab.proofs.meeting.put_met.Goals as goal

pub returns-in_err-ended-clause-written : goal.returns-in_err-ended-clause-written
returns-in_err-ended-clause-written g c =
    let t = c.args.views.now in
    put_same (parts_are t c.args.low c.args.high c.requires.span c.requires.stands.planar.in_order c.stand-from.result.0 c.stand-from.ensures.standing)
    (stop_err (flat_map numbered (run_at t c.args.low c.args.high) ++ flat_map numbered (later_at t c.args.low c.args.high c.requires.span)) (err_from_is_err_and _ c.from_residual.ensures.1).1 c.in_err-ended.ensures.written)

pub returns-in_err-run-clause-written : goal.returns-in_err-run-clause-written
returns-in_err-run-clause-written g c =
    let t = c.args.views.now in
    put_same (parts_are t c.args.low c.args.high c.requires.span c.requires.stands.planar.in_order c.stand-from.result.0 c.stand-from.ensures.standing)
    (both_ok c.in_ok-ended.ensures.written
    (stop_err (flat_map numbered (later_at t c.args.low c.args.high c.requires.span)) (err_from_is_err_and _ c.from_residual-in_err-run.ensures.1).1 c.in_err-run.ensures.written))

pub returns-in_err-later-clause-written : goal.returns-in_err-later-clause-written
returns-in_err-later-clause-written g c =
    let t = c.args.views.now in
    put_same (parts_are t c.args.low c.args.high c.requires.span c.requires.stands.planar.in_order c.stand-from.result.0 c.stand-from.ensures.standing)
    (both_ok c.in_ok-ended.ensures.written
    (both_ok c.in_ok-run.ensures.written
    (put_same (ap (flat_map numbered) (sym (later_list t c.requires.stands.planar.in_order c.args.low c.args.high c.requires.span c.stand-from.result.1 c.stand-past.result.1 c.stand-from.ensures.passed c.stand-past.ensures.passed)))
    (put_err refl (err_from_is_err_and _ c.from_residual-in_err-later.ensures.1).1 c.in_err-later.ensures.written))))

pub returns-clause-written : goal.returns-clause-written
returns-clause-written g c =
    let t = c.args.views.now in
    put_same (parts_are t c.args.low c.args.high c.requires.span c.requires.stands.planar.in_order c.stand-from.result.0 c.stand-from.ensures.standing)
    (both_ok c.in_ok-ended.ensures.written
    (both_ok c.in_ok-run.ensures.written
    (put_same (ap (flat_map numbered) (sym (later_list t c.requires.stands.planar.in_order c.args.low c.args.high c.requires.span c.stand-from.result.1 c.stand-past.result.1 c.stand-from.ensures.passed c.stand-past.ensures.passed))) (put_ok _ c.in_ok-later.ensures.written))))

pub returns-clause-count : goal.returns-clause-count
returns-clause-count g c =
    let e = c.in_ok-ended.ensures.count in
    let r = c.in_ok-run.ensures.count in
    let l = c.in_ok-later.ensures.count in
    let n = met_length c.args.views.now c.args.low c.args.high c.requires.span c.requires.stands.planar.in_order c.stand-from.result.0 c.stand-from.ensures.standing c.stand-from.result.1 c.stand-past.result.1 c.stand-from.ensures.passed c.stand-past.ensures.passed in
    omega (arith, e, r, l, n)

pub write_beginning-requires-clause-in_order : goal.write_beginning-requires-clause-in_order
write_beginning-requires-clause-in_order g c =
    passed_more c.args.views.now c.args.low c.args.high c.requires.span c.stand-from.result.1 c.stand-past.result.1 c.stand-from.ensures.passed c.stand-past.ensures.passed c.stand-from.ensures.within

pub returns-in_err-run-clause-few : goal.returns-in_err-run-clause-few
returns-in_err-run-clause-few g c = two_few (length (run_at c.args.views.now c.args.low c.args.high)) (omega arith) c.stand-from.ensures.counted c.stand-from.ensures.halving c.in_err-run.ensures.few

pub returns-in_err-later-clause-few : goal.returns-in_err-later-clause-few
returns-in_err-later-clause-few g c = total_few (length (run_at c.args.views.now c.args.low c.args.high)) c.stand-from.ensures.counted c.stand-from.ensures.halving c.in_ok-run.ensures.few c.stand-past.ensures.counted c.stand-past.ensures.halving

pub returns-clause-few : goal.returns-clause-few
returns-clause-few g c = total_few (length (run_at c.args.views.now c.args.low c.args.high)) c.stand-from.ensures.counted c.stand-from.ensures.halving c.in_ok-run.ensures.few c.stand-past.ensures.counted c.stand-past.ensures.halving
