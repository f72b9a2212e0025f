-- Bytes among which no double quote stands are printed as they are.
use Rattle.std.proofs.Common.{◌≡◌, ℕ, List, [], ◌∷◌, ◌++◌, Bool, true, false, ◌||◌, ◌==◌, refl, ap}
use Rattle.std.specs.Prelude.{if◌then◌else◌}
use Rattle.std.specs.{List.flat_map, List.list_any, Str.byte}
use Rattle.loc_spec_text.specs.Points.{quoted_byte}

pub undoubled : (id : List ℕ) → list_any (λ b. b == byte "\"") id ≡ false → flat_map quoted_byte id ≡ id
undoubled [] h = refl
undoubled (b ∷ id) h = at (b == byte "\"") h (undoubled id)
  where
    at : (t : Bool) → (t || list_any (λ c. c == byte "\"") id) ≡ false → (list_any (λ c. c == byte "\"") id ≡ false → flat_map quoted_byte id ≡ id)
        → (if t then b ∷ b ∷ [] else b ∷ []) ++ flat_map quoted_byte id ≡ b ∷ id
    at true h more = absurd (cc)
    at false h more = ap (λ rest. b ∷ rest) (more h)
