-- What is kept of polygons: their rings one after another, and for each polygon the number of its first ring. The words: `RiseTo`, `BeginAtZero`, `AreKept`.
use Rattle.std.specs.Prelude.{◌≡◌, ℕ, ◌≤◌, ◌^◌, List, [], ◌∷◌, length, All}
use Rattle.loc_spec_plane.specs.Rings.{Rings}
use Rattle.loc_rings.specs.Values.{IsRing}

-- from the first number on each is at most the next, and the last at most the number of rings
abbrev pub RiseTo : ℕ → List ℕ → ℕ → Type 0
RiseTo first [] count = first ≤ count
RiseTo first (start ∷ starts) count = (first ≤ start) × RiseTo start starts count

-- the first polygon begins at ring 0, none begins before the one in front of it, and there are no rings where there is no polygon
abbrev pub BeginAtZero : List ℕ → ℕ → Type 0
BeginAtZero [] count = count ≡ 0
BeginAtZero (start ∷ starts) count = (start ≡ 0) × RiseTo start starts count

-- each ring is one, the numbers of the first rings rise from 0, and there are at most 2^28 of either
pub record AreKept (starts : List ℕ) (rings : Rings) : Type 0 where
  pub each : All IsRing rings
  pub few_rings : length rings ≤ 2 ^ 28
  pub few : length starts ≤ 2 ^ 28
  pub begin : BeginAtZero starts (length rings)
