-- The lists of a query are those that stand here. The words: `NamesFeatures`, `QueryLaw`.
use Rattle.std.specs.Prelude.{◌≡◌, ℕ, Bool, List}
use Rattle.loc_spec_plane.specs.{Points.Point, Rings.touches, Rings.covers}
use Rattle.loc_spec_text.specs.Points.{Answer, on_corner, on_border, in_face, no_point}
use Rattle.loc_rings.specs.Values.{Feature}
use Rattle.loc_query.specs.Answered.{ids_where, located}

-- the answer names these features that touch the point, where it names any, and these that cover it
abbrev pub NamesFeatures : List (List ℕ) → List (List ℕ) → Answer → Type 0
NamesFeatures on covering (on_corner n touching inside) = (touching ≡ on) × (inside ≡ covering)
NamesFeatures on covering (on_border n touching inside) = (touching ≡ on) × (inside ≡ covering)
NamesFeatures on covering (in_face face inside) = inside ≡ covering
NamesFeatures on covering no_point = ⊥

-- what a query answers to a point names the same features
abbrev pub QueryLaw : Type 0
QueryLaw = (faces : Bool) (layer : List Feature) (p : Point) → NamesFeatures (ids_where (λ rings. touches rings p) layer) (ids_where (λ rings. covers rings p) layer) (located faces layer p)
