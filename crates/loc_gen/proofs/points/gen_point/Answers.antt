use Rattle.loc_gen.proofs.points.gen_point.Goals as goal

pub returns : goal.returns
returns c = c.small_point.ensures
