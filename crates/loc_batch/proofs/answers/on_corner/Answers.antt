use Rattle.std.proofs.{Common.[], Common.subst, lemmas.Option.get_or_from_slice_get}
use Rattle.std.specs.Prelude.{IsTrue, nat_lt}
use Rattle.loc_spec_plane.specs.Lists.{is_rising}
use Rattle.loc_cover.specs.Legends.{AreNamed}
use Rattle.loc_batch.proofs.answers.on_corner.Goals as goal

pub returns-clause-named : goal.returns-clause-named
returns-clause-named c = subst (AreNamed c.args.legend.now) (get_or_from_slice_get c.args.legend.now.on_corner c.args.n c.on_corner.result.now [] c.on_corner.ensures) (c.law.ensures.corners_named c.args.n)

pub returns-clause-in_order : goal.returns-clause-in_order
returns-clause-in_order c = subst (λ fs. IsTrue (is_rising nat_lt fs)) (get_or_from_slice_get c.args.legend.now.on_corner c.args.n c.on_corner.result.now [] c.on_corner.ensures) (c.law.ensures.corners_rise c.args.n)
