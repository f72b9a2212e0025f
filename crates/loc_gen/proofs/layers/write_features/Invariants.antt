use Rattle.std.proofs.Common.{◌≡◌, drop}
use Rattle.std.specs.List.{flat_map}
use Rattle.loc_io.specs.Streams.{InTime}
use Rattle.loc_io.proofs.Appending.{Wrote}
use Rattle.loc_gen.specs.Layers.{feature_text, features}
use Rattle.loc_gen.proofs.layers.write_features.Given as goal

abbrev pub invariant-loop-number : goal.invariant-loop-number
invariant-loop-number g l =
    let meaning = g.O.Sink.meaning in
    let all = features l.kind l.n l.start in
    record {
      wrote : Wrote (meaning l.fn.sink).written (meaning l.sink).written (flat_map feature_text all) (flat_map feature_text (drop l.number all));
      steady : (meaning l.sink).faults ≡ (meaning l.fn.sink).faults;
      in_time : InTime (meaning l.fn.sink) (meaning l.sink);
    }
