use Rattle.std.proofs.Common.{◌≡◌, ◌∙◌, Bool, false, not, ◌&&◌, List, Option, Some, None, refl, ap}
use Rattle.std.specs.{List.list_any, Prelude.unwrap_or}
use Rattle.loc_spec_plane.specs.{Lists.odd_many, Points.Point, Points.Edge, Points.lies_on, Rays.crosses_right, Rings.segments, Rings.covers}
use Rattle.loc_spec_text.specs.Reading.{all_rings}
use Rattle.loc_rings.specs.Parity.{IsParity}
use Rattle.loc_rings.proofs.containment.covers.Goals as goal

covered : (ss : List Edge) (p : Point) (r : Option Bool) → IsParity ss p r → unwrap_or r false ≡ (not (list_any (λ s. lies_on s p) ss) && odd_many (λ s. crosses_right s p) ss)
covered ss p None on = rw on refl
covered ss p (Some odd) (off, is) = rw (off, is) refl

pub returns : goal.returns
returns c = c.unwrap_or.ensures ∙ (covered (segments (all_rings c.rings.result.now)) c.args.p c.parity.result c.parity.ensures ∙ ap (λ ps. covers (all_rings ps) c.args.p) c.rings.ensures)
