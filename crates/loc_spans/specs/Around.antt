-- Boxes about segments. The words: `is_some`, `IsWider`.
use Rattle.std.specs.Prelude.{◌≡◌, Bool, true, false, List, [], ◌∷◌, int_le}
use Rattle.loc_spec_plane.specs.Points.{Edge, up_to}
use Rattle.loc_spans.specs.declared.extents.Around.{Around}

-- there is a segment
abbrev pub is_some : List Edge → Bool
is_some [] = false
is_some (s ∷ ss) = true

-- a box that reaches as far as another on each side
pub record IsWider (a b : Around) : Type 0 where
  pub first : up_to b.span.lo a.span.lo ≡ true
  pub last : up_to a.span.hi b.span.hi ≡ true
  pub low : int_le b.low.y a.low.y ≡ true
  pub high : int_le a.high.y b.high.y ≡ true
