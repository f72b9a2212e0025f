use Rattle.std.proofs.Common.{sym, ◌∙◌, ap}
use Rattle.loc_spec_text.specs.Points.{point_of}
use Rattle.loc_face.proofs.Written.{unread_word}
use Rattle.loc_face.proofs.seeking.write_for.Goals as goal

pub returns-in-None : goal.returns-in-None
returns-in-None g c = λ shelf. unread_word c.args.scale c.args.plane.now.table c.args.word.now _ shelf _ _
    (sym c.in-None.is ∙ (c.read_point.ensures ∙ ap (λ s. point_of s c.args.word.now) c.decimals.ensures.value)) c.of.ensures
