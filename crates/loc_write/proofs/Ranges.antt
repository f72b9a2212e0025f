-- The numbers of a legend in the words of a file.
use Rattle.std.proofs.Common.{◌≡◌, ℕ, ◌<◌, ◌≤◌, length, get_or, Option, Some, None, refl, ◌∙◌, arith}
use Rattle.std.proofs.lemmas.List.{get_or_default}
use Rattle.loc_spec_index.specs.IndexFile.{none_or_next}
use Rattle.loc_cover.specs.Legends.{LegendRows, IsSound}

below-next : (n : ℕ) (floor : Option ℕ) → ((e : ℕ) → floor ≡ Some e → e < n) → none_or_next floor ≤ n
below-next n None h = omega arith
below-next n (Some e) h = let lt = h e refl in omega (arith, lt)

-- a floor is 0, or at most the number of edges
pub floor-within : (rows : LegendRows) → IsSound rows → (c : ℕ) (d : Option ℕ) → c < length rows.floors → none_or_next (get_or rows.floors c d) ≤ length rows.on_edge
floor-within rows sound c d lt =
    below-next (length rows.on_edge) (get_or rows.floors c d) (λ e is. sound.floors_in_range c e (get_or_default rows.floors c None d lt ∙ is))
