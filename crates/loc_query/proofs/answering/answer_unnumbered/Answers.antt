use Rattle.loc_query.proofs.answering.answer_unnumbered.Goals as goal

pub returns : goal.returns
returns g c = c.answer_points-outcome.ensures
