use Rattle.std.proofs.Common.{◌≡◌, ℕ, [], ◌∷◌, arith}
use Rattle.std.proofs.lemmas.Grind.{common_steps}
use Rattle.std.specs.Prelude.{codes}
use Rattle.loc_spec_plane.specs.Points.{Edge}
use Rattle.loc_spec_text.specs.Points.{ended}
use Rattle.loc_geom.specs.declared.kinds.Meeting.{Meeting}
use Rattle.loc_course.specs.{declared.line.Part.Part, Lines.line_text, Lines.part_text}
use Rattle.loc_course.specs.declared.line.Part.TheVariants as p
use Rattle.loc_maps.specs.LineTexts.{conflict_text, meeting_text}
use Rattle.loc_maps.proofs.lines.conflict_line.Goals as goal

-- the line of these parts
parts_say : (scale : ℕ) (a b : Edge) (meeting : Meeting) (head between how : Part) → part_text head ≡ codes "layer: edges " → part_text between ≡ codes " and " → part_text how ≡ meeting_text meeting
    → line_text (record { parts = head ∷ p.Ends scale a ∷ between ∷ p.Ends scale b ∷ how ∷ p.None ∷ [] }) ≡ ended (conflict_text scale a b meeting)
parts_say scale a b meeting head between how is_head is_between is_how = grind (arith, common_steps, is_head, is_between, is_how)

pub returns : goal.returns
returns c = parts_say c.args.scale c.args.pair.a c.args.pair.b c.args.pair.meeting c.of.result c.of-2.result c.meeting_part.result c.of.ensures c.of-2.ensures c.meeting_part.ensures
