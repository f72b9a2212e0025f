use Rattle.std.proofs.Common.{ap, ap₂, ◌∙◌, Err, None, Some}
use Rattle.loc_spec_text.specs.Points.{ended}
use Rattle.loc_gen.specs.Layers.{layer_text}
use Rattle.loc_course.specs.{Courses.unwritten, Following.WritesText}
use Rattle.loc_trial.specs.TrialCourses.{past_text}
use Rattle.loc_trial.proofs.Sized.{failed_within, refused_layer, was_past, was_within, wrote_layer}
use Rattle.loc_trial.proofs.layers.generate.Goals as goal

pub returns-in-Ok : goal.returns-in-Ok
returns-in-Ok g c shelf k =
    let m = g.O.Sink.meaning in
    let within = was_within c.args.kind c.args.n _ c.gen_layer.ensures.too_many c.gen_layer.ensures.fault c.in-Ok.field-0 c.in-Ok.is in
    let all = c.in-Ok.ensures.writes within in
    let wrote : WritesText (layer_text c.args.kind c.args.n c.args.shift) (m c.args.out.now) (m c.gen_layer.new.sink) None = record { wrote = (all.ok, all.cause.steady); in_time = all.in_time } in
    wrote_layer c.args.kind c.args.n c.args.shift _ _ shelf k None within wrote

pub returns-in-Err-TooMany : goal.returns-in-Err-TooMany
returns-in-Err-TooMany g c shelf k =
    let past = was_past c.args.kind c.args.n _ c.gen_layer.ensures.too_many c.gen_layer.ensures.fault c.in-Err-TooMany.asked c.in-Err-TooMany.limit (c.in-Err-TooMany.is ∙ ap Err c.in-Err-TooMany.field-0-is) in
    let line = c.past_line.ensures ∙ ap₂ (λ a b. ended (past_text a b)) past.1 past.2 in
    refused_layer c.args.kind c.args.n c.args.shift _ _ shelf k _ past.0 (c.gen_layer.ensures.untouched past.0) line

pub returns-in-Err-WriteFault : goal.returns-in-Err-WriteFault
returns-in-Err-WriteFault g c shelf k =
    let m = g.O.Sink.meaning in
    let within = failed_within c.args.kind c.args.n _ c.gen_layer.ensures.too_many c.gen_layer.ensures.fault (c.in-Err-WriteFault.is ∙ ap Err c.in-Err-WriteFault.field-0-is) in
    let all = c.in-Err-WriteFault.ensures.writes within in
    let wrote : WritesText (layer_text c.args.kind c.args.n c.args.shift) (m c.args.out.now) (m c.gen_layer.new.sink) (Some unwritten) = record { wrote = (all.err, all.cause.failed); in_time = all.in_time } in
    wrote_layer c.args.kind c.args.n c.args.shift _ _ shelf k (Some unwritten) within wrote
