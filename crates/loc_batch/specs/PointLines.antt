-- Lines that read as points: these alone are sought. The words: `is_point_line`, `point_count`.
use Rattle.std.specs.Prelude.{ℕ, Bool, List, count_by}
use Rattle.std.specs.Option.{is_some}
use Rattle.loc_spec_text.specs.Points.{point_of}

-- a line reads as a point at a scale
abbrev pub is_point_line : ℕ → List ℕ → Bool
is_point_line scale line = is_some (point_of scale line)

-- how many lines read as points at a scale
abbrev pub point_count : ℕ → List (List ℕ) → ℕ
point_count scale lines = count_by (is_point_line scale) lines
