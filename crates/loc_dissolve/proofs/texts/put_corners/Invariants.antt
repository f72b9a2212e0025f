use Rattle.std.proofs.Common.{drop}
use Rattle.std.specs.Prelude.{◌++◌, codes}
use Rattle.std.specs.List.{flat_map}
use Rattle.loc_spec_plane.specs.Points.{Point}
use Rattle.loc_spec_text.specs.Points.{position_text}
use Rattle.loc_page.proofs.Pages.{Goes}
use Rattle.loc_dissolve.proofs.texts.put_corners.Given as goal

abbrev pub invariant-loop-corner : goal.invariant-loop-corner
invariant-loop-corner g l =
    Goes (flat_map (λ (p : Point). position_text l.scale p ++ codes ", ") l.corners) (flat_map (λ (p : Point). position_text l.scale p ++ codes ", ") (drop l.corner-index l.corners))
    (g.O.Sink.meaning l.fn.sink) (g.O.Sink.meaning l.sink) l.fn.page l.page
