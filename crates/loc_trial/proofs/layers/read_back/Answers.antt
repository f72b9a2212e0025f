use Rattle.loc_trial.proofs.layers.read_back.Goals.{in-NoMemory, in_default}
use Rattle.loc_io.specs.Streams.{Stream}
use Rattle.std.proofs.Common.{ap, ◌∙◌, Err, refl, length, arith}
use Rattle.loc_gen.specs.Layers.{layer_text}
use Rattle.loc_course.specs.Following.{lacks}
use Rattle.loc_trial.proofs.{LayerTexts.layer_short, Sized.on_past, Sized.was_past, Sized.was_within}
use Rattle.loc_trial.proofs.InMemory.{no_fault_of, one_layer, text_is}
use Rattle.loc_trial.proofs.layers.read_back.Goals as goal

pub returns-in-Err-TooMany-clause-goes_on : goal.returns-in-Err-TooMany-clause-goes_on
returns-in-Err-TooMany-clause-goes_on c next m =
    let past = was_past c.args.kind c.args.n _ c.gen_layer.ensures.too_many c.gen_layer.ensures.fault c.in-Err-TooMany.asked c.in-Err-TooMany.limit (c.in-Err-TooMany.is ∙ ap Err c.in-Err-TooMany.field-0-is) in
    rw (c.past_line.ensures, c.in-Err-TooMany.asked-is, c.in-Err-TooMany.limit-is, past.1, past.2) (on_past c.args.kind c.args.n next m _ past.0 refl)

pub returns-in-Err-WriteFault-clause-goes_on : goal.returns-in-Err-WriteFault-clause-goes_on
returns-in-Err-WriteFault-clause-goes_on c next m = lacks

pub read_layer-requires-clause-size : goal.read_layer-requires-clause-size
read_layer-requires-clause-size c =
    let within = was_within c.args.kind c.args.n _ c.gen_layer.ensures.too_many c.gen_layer.ensures.fault c.in-Ok.field-0 c.in-Ok.is in
    omega (arith, ap length (text_is _ _ (layer_text c.args.kind c.args.n c.args.shift) c.bytes.result.now (ap (λ (s : Stream). s.written) c.new-text.ensures.fresh) c.bytes.ensures (c.in-Ok.ensures.writes within).ok), layer_short c.args.kind c.args.n c.args.shift within)

pub returns-in-Ok-read_layer-clause-layer : goal.returns-in-Ok-read_layer-clause-layer
returns-in-Ok-read_layer-clause-layer c =
    let within = was_within c.args.kind c.args.n _ c.gen_layer.ensures.too_many c.gen_layer.ensures.fault c.in-Ok.field-0 c.in-Ok.is in
    one_layer c.args.kind c.args.n c.args.shift _ _ within (text_is _ _ (layer_text c.args.kind c.args.n c.args.shift) c.bytes.result.now (ap (λ (s : Stream). s.written) c.new-text.ensures.fresh) c.bytes.ensures (c.in-Ok.ensures.writes within).ok) c.in-Ok-read_layer.ensures.ok

pub prove-unreachable-requires : goal.prove-unreachable-requires
prove-unreachable-requires c = elim c.match-matches.branch [
  | in-NoMemory w ↦ absurd (cc (w.matches-is, c.if-prove.true))
  | in_default w ↦
      let within = was_within c.args.kind c.args.n _ c.gen_layer.ensures.too_many c.gen_layer.ensures.fault c.in-Ok.field-0 c.in-Ok.is in
      let is = text_is _ _ (layer_text c.args.kind c.args.n c.args.shift) c.bytes.result.now (ap (λ (s : Stream). s.written) c.new-text.ensures.fresh) c.bytes.ensures (c.in-Ok.ensures.writes within).ok in
      w.in_default.not-NoMemory (no_fault_of c.args.kind c.args.n c.args.shift c.bytes.result.now c.in-Err.fault within is c.in-Err.ensures.err)
]

pub returns-clause-goes_on : goal.returns-clause-goes_on
returns-clause-goes_on c next m = lacks
