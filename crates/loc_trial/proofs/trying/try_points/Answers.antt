use Rattle.std.proofs.Common.{◌≡◌, ◌++◌, ◌∙◌, ap₂, length}
use Rattle.std.specs.Prelude.{map}
use Rattle.loc_spec_plane.specs.Lists.{numbers}
use Rattle.loc_spec_text.specs.{Answered.answered, Points.ended}
use Rattle.loc_batch.specs.{Answering.answer_by, Batches.no_tally, Faces.unnumbered}
use Rattle.loc_batch.specs.Streams.{tally_of as tally_of_answers}
use Rattle.loc_course.specs.Following.{searches_by}
use Rattle.loc_course.proofs.{Going.lacks_end, Told.exactly_it}
use Rattle.loc_trial.specs.{Generated.point_line, Trials.nodes_text, Trials.sizes_text, Trials.tally_text}
use Rattle.loc_trial.proofs.trying.try_points.Goals as goal

pub returns-in_err-tally : goal.returns-in_err-tally
returns-in_err-tally g c shelf = searches_by _ c.tally_of.ensures.counted c.tally_of.ensures.within (lacks_end c.from_residual.result c.from_residual.ensures.1)

pub returns-in_err-line : goal.returns-in_err-line
returns-in_err-line g c shelf = searches_by _ c.tally_of.ensures.counted c.tally_of.ensures.within (lacks_end c.from_residual-in_err-line.result c.from_residual-in_err-line.ensures.1)

pub returns : goal.returns
returns g c shelf =
    let tally = tally_of_answers no_tally (answered (answer_by 0 (g.I.Locator.finds c.args.index.now c.args.table.now) unnumbered c.args.legend.now) (map (point_line c.args.n c.args.shift) (numbers c.args.n))).answers in
    let sizes = ap₂ (λ corners edges. sizes_text c.args.kind c.args.n c.args.shift corners edges) c.corner_count-corners.ensures.value c.edge_count-edges.ensures.value in
    let line : c.deref.result.now ≡ ended (sizes_text c.args.kind c.args.n c.args.shift (length c.args.table.now.corners) (length c.args.table.now.ends) ++ tally_text tally ++ nodes_text c.args.nodes) =
    c.deref.ensures.value ∙ c.in_ok-line.ensures ∙ ap₂ (λ front t. ended (front ++ tally_text t ++ nodes_text c.args.nodes)) sizes c.in_ok-tally.ensures.tally in
    searches_by _ c.tally_of.ensures.counted c.tally_of.ensures.within (c.write_out.ensures _ (exactly_it _ _ line) shelf _)
