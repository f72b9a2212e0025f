use Rattle.std.proofs.Common.{◌<◌, length, sym, ◌∙◌, ap, subst, arith}
use Rattle.loc_spec_plane.specs.Tables.{corner}
use Rattle.loc_spec_text.specs.Points.{position_text}
use Rattle.loc_page.proofs.Pages.{put_same}
use Rattle.loc_faces.proofs.Writing.{origin_fits}
use Rattle.loc_faces.proofs.texts.put_corner.Goals as goal

pub origin-requires : goal.origin-requires
origin-requires g c = omega (arith, c.requires.half.as_many_origins, c.requires.in_range)

pub corner-requires : goal.corner-requires
corner-requires g c = subst (λ n. n < length c.args.table.now.corners) (sym (c.origin.ensures ∙ c.requires.half.origins c.args.h c.requires.in_range)) (origin_fits c.args.table.now c.law.ensures.in_order c.args.h c.requires.in_range)

pub put_position-requires : goal.put_position-requires
put_position-requires g c = record { scale = c.requires.scale }

pub returns : goal.returns
returns g c = put_same (ap (position_text c.args.scale) (c.corner.ensures ∙ ap (corner c.args.table.now) (c.origin.ensures ∙ c.requires.half.origins c.args.h c.requires.in_range))) c.put_position.ensures
