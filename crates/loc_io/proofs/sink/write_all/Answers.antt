use Rattle.std.proofs.Common.{◌-◌, ◌<◌, ◌≤◌, length, length-take, take, drop, rules, arith, length-drop, subst, sym}
use Rattle.std.proofs.{KnownBytes.Appends-kept, lemmas.List.take_all, lemmas.Result.err_from_is_err_and}
use Rattle.loc_io.specs.Causes.{Rose}
use Rattle.loc_io.proofs.Appending.{Wrote, in_time_after, in_time_by, wrote-more}
use Rattle.loc_io.proofs.sink.write_all.Goals as goal

pub loop-rest-preserved : goal.loop-rest-preserved
loop-rest-preserved g c =
    let m = g.O.Sink.meaning in
    let more = wrote-more _ _ _ _ _ c.in_ok-n.n c.loop-rest.invariant.wrote c.in_ok-n.ensures.bytes in
    record {
      wrote = subst (λ rest. Wrote (m c.args.sink.now).written (m c.write.new.self).written c.args.piece.now rest) (sym (take_all (length c.loop-rest.rest.now - c.in_ok-n.n) (drop c.in_ok-n.n c.loop-rest.rest.now) (omega (arith, length-drop c.in_ok-n.n c.loop-rest.rest.now)))) more;
      steady = search rules;
      in_time = in_time_after (m c.args.sink.now) (m c.loop-rest.sink) (m c.write.new.self) c.loop-rest.invariant.in_time c.loop-rest.invariant.steady (in_time_by (m c.loop-rest.sink) (m c.write.new.self) c.in_ok-n.ensures.late);
    }

pub loop-rest-smaller : goal.loop-rest-smaller
loop-rest-smaller g c =
    let rest = c.loop-rest.rest.now in
    let n = c.in_ok-n.n in
    let count = c.in_ok-n.ensures.count in
    let smaller : length (take (length rest - n) (drop n rest)) < length rest = omega (arith, count, length-drop n rest, length-take (length rest - n) (drop n rest)) in
    smaller

pub returns-in_err-n : goal.returns-in_err-n
returns-in_err-n g c =
    let m = g.O.Sink.meaning in
    let before = c.loop-rest.invariant in
    let p = err_from_is_err_and c.from_residual.result c.from_residual.ensures.1 in
    rw (p.1, p.2) (record {
      ok = tt;
      err = (before.wrote.front, c.loop-rest.rest.now, before.wrote.split, Appends-kept _ _ _ _ before.wrote.bytes c.in_err-n.ensures.bytes);
      cause = record {
        later = subst (λ n. n ≤ (m c.write.new.self).faults) before.steady c.in_err-n.ensures.cause.later;
        failed = subst (λ n. Rose n (m c.write.new.self).faults) before.steady c.in_err-n.ensures.cause.failed;
        steady = tt;
      };
      in_time = in_time_after (m c.args.sink.now) (m c.loop-rest.sink) (m c.write.new.self) before.in_time before.steady (in_time_by (m c.loop-rest.sink) (m c.write.new.self) c.write.ensures.late);
    })
