use Rattle.std.proofs.Common.{ap, map}
use Rattle.loc_spec_plane.specs.Rings.{Rings}
use Rattle.loc_spec_groups.specs.GroupTexts.{enclosed, ring_text}
use Rattle.loc_page.proofs.Pages.{put_same}
use Rattle.loc_dissolve.proofs.texts.PolygonWritten.put.Goals as goal

pub returns : goal.returns
returns g c = put_same (ap (λ (l : Rings). enclosed (map (ring_text c.args.scale) l)) c.rings.ensures) c.put_enclosed.ensures
