-- Which features touch and which cover a point, in any layer that reads. The words:
--   features_text    the ids of those that touch a point and of those that cover it, as they are written
--   features_at      the same of a point in a layer, by the rings alone
--   features_line    the answer to a line at a scale
--   features_output  the answers to all lines of a points text
use Rattle.std.specs.Prelude.{ℕ, List, [], ◌∷◌, ◌++◌, codes}
use Rattle.std.specs.{List.flat_map, Option.option_map_or}
use Rattle.loc_spec_plane.specs.{Points.Point, Rings.touches, Rings.covers}
use Rattle.loc_spec_text.specs.{Bytes.Text, Bytes.lines, Points.ended, Points.ids_text, Points.point_of}
use Rattle.loc_rings.specs.Values.{Feature}
use Rattle.loc_query.specs.Answered.{ids_where}

-- where no feature touches the point, those that cover it; else those that touch it, and those that cover it
abbrev pub features_text : List (List ℕ) → List (List ℕ) → Text
features_text [] covering = codes "in" ++ ids_text covering
features_text (id ∷ on) covering = codes "on" ++ ids_text (id ∷ on) ++ codes " in" ++ ids_text covering

-- the features that touch a point and those that cover it, in the order of the layer
abbrev pub features_at : List Feature → Point → Text
features_at layer p = features_text (ids_where (λ rings. touches rings p) layer) (ids_where (λ rings. covers rings p) layer)

-- the answer to a line, with its LF; `unread` where it reads as no point
abbrev pub features_line : ℕ → List Feature → Text → Text
features_line scale layer line = ended (option_map_or (features_at layer) (point_of scale line) (codes "unread"))

-- the answers to the lines of a points text, in order
unfoldable pub features_output : ℕ → List Feature → Text → Text
features_output scale layer points = flat_map (features_line scale layer) (lines points)
