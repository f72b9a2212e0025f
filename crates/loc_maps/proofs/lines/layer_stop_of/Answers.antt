use Rattle.std.proofs.Common.{refl}
use Rattle.loc_maps.proofs.lines.layer_stop_of.Goals as goal

pub returns-in-Text : goal.returns-in-Text
returns-in-Text c = rw (c.in-Text.is, c.at_place_text.ensures) refl
