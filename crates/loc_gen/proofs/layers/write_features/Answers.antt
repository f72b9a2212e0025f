use Rattle.std.proofs.Common.{◌<◌, ◌≤◌, length, refl, arith, rules}
use Rattle.std.proofs.lemmas.Result.{err_from_is_err_and}
use Rattle.loc_io.proofs.Appending.{in_time_after}
use Rattle.loc_gen.specs.Layers.{feature_text, features}
use Rattle.loc_gen.proofs.Numbered.{count_is}
use Rattle.loc_gen.proofs.Written.{wrote_front, wrote_list, wrote_member, wrote_none}
use Rattle.loc_gen.proofs.layers.write_features.Goals as goal

pub loop-number-init : goal.loop-number-init
loop-number-init g c = record { wrote = wrote_none _ _; steady = refl; in_time = λ _. refl }

pub loop-number-preserved : goal.loop-number-preserved
loop-number-preserved g c =
    let m = g.O.Sink.meaning in
    let all = features c.args.kind c.args.n c.args.start in
    let less : c.loop-number.number < length all = omega (arith, count_is c.args.kind c.args.n c.args.start, c.feature_count-number-end.ensures, c.loop-number-test.true) in
    record {
      wrote = wrote_member feature_text all _ _ c.loop-number.number c.feature.result less c.feature.ensures c.loop-number.invariant.wrote _ c.in_ok-write_feature.ensures.ok;
      steady = search rules;
      in_time = in_time_after (m c.args.sink.now) (m c.loop-number.sink) (m c.write_feature.new.sink) c.loop-number.invariant.in_time c.loop-number.invariant.steady c.in_ok-write_feature.ensures.in_time;
    }

pub returns-in_err-write_feature : goal.returns-in_err-write_feature
returns-in_err-write_feature g c =
    let m = g.O.Sink.meaning in
    let all = features c.args.kind c.args.n c.args.start in
    let less : c.loop-number.number < length all = omega (arith, count_is c.args.kind c.args.n c.args.start, c.feature_count-number-end.ensures, c.loop-number-test.true) in
    let p = err_from_is_err_and c.from_residual.result c.from_residual.ensures.1 in
    rw (p.1, p.2) (record {
      ok = tt;
      err = wrote_front feature_text all _ _ c.loop-number.number c.feature.result less c.feature.ensures c.loop-number.invariant.wrote _ c.in_err-write_feature.ensures.err;
      cause = search rules;
      in_time = in_time_after (m c.args.sink.now) (m c.loop-number.sink) (m c.write_feature.new.sink) c.loop-number.invariant.in_time c.loop-number.invariant.steady c.in_err-write_feature.ensures.in_time;
    })

pub returns : goal.returns
returns g c =
    let all = features c.args.kind c.args.n c.args.start in
    let over : length all ≤ c.loop-number.number = omega (arith, count_is c.args.kind c.args.n c.args.start, c.feature_count-number-end.ensures, c.loop-number-test.false) in
    record {
      ok = wrote_list feature_text all _ _ c.loop-number.number over c.loop-number.invariant.wrote;
      err = tt;
      cause = search rules;
      in_time = c.loop-number.invariant.in_time;
    }
