-- The least number at which something is wrong. The words:
--   IsLeastFailing  the least number below a bound at which a fact does not hold, or none where it holds at each
--   has_odd_from    an edge begins or ends at a corner, and a feature marks it odd
--   is_odd_at       a feature marks an odd number of the edges at a corner odd
--   IsLeastUneven   the least corner at which a feature is uneven, and the least feature there
--   is_odd_in       a number stands an odd number of times in a list
--   IsLeastOdd      the least number that stands an odd number of times in a list
--   IsLeastFrom     the least of the edges that begin at a corner at which a fact does not hold
--   IsLeastWith     the least number so far at which a fact does not hold, with one number more
--   AreCoversBefore the edges that begin before a corner have the lists above them
use Rattle.std.specs.Prelude.{◌≡◌, ℕ, ◌<◌, ◌≤◌, ◌⊎◌, Bool, true, false, ◌&&◌, ◌==◌, List, length, Option, Some, None}
use Rattle.loc_spec_plane.specs.{Lists.odd_many, Covers.cover_above}
use Rattle.loc_cover.specs.Legends.{LegendRows, list_above}
use Rattle.loc_spec_plane.specs.Tables.{Table, AllEven, IsEvenAt, edge_numbers, ends_at, has_odd, lo_of}

-- the least number below the bound at which the fact does not hold, or none where it holds at each
abbrev pub IsLeastFailing : ℕ → (ℕ → Type 0) → Option ℕ → Type 0
IsLeastFailing bound Holds None = (n : ℕ) → n < bound → Holds n
IsLeastFailing bound Holds (Some n) = (n < bound) × (Holds n → ⊥) × ((m : ℕ) → m < n → Holds m)

-- edge e has the corner as this end, and feature f marks it odd
abbrev pub has_odd_from : Table → (Table → ℕ → ℕ) → ℕ → ℕ → ℕ → Bool
has_odd_from t end_of n f e = (end_of t e == n) && has_odd t f e

-- feature f marks an odd number of the edges at corner n odd
abbrev pub is_odd_at : Table → ℕ → ℕ → Bool
is_odd_at t n f = odd_many (λ e. ends_at t n e && has_odd t f e) (edge_numbers t)

-- the least corner at which a feature is uneven, and the least feature there, or none where all are even
abbrev pub IsLeastUneven : Table → Option (ℕ × ℕ) → Type 0
IsLeastUneven t None = AllEven t
IsLeastUneven t (Some found) = (found.0 < length t.corners) × (is_odd_at t found.0 found.1 ≡ true) × ((g : ℕ) → g < found.1 → is_odd_at t found.0 g ≡ false) × ((m : ℕ) → m < found.0 → IsEvenAt t m)

-- how often a number stands in a list, odd or even
abbrev pub is_odd_in : ℕ → List ℕ → Bool
is_odd_in f row = odd_many (λ g. g == f) row

-- the least number that stands an odd number of times in the list, or none
abbrev pub IsLeastOdd : List ℕ → Option ℕ → Type 0
IsLeastOdd row None = (f : ℕ) → is_odd_in f row ≡ false
IsLeastOdd row (Some f) = (is_odd_in f row ≡ true) × ((g : ℕ) → g < f → is_odd_in g row ≡ false)

-- the least of the edges that begin at corner c at which the fact does not hold, or none where it holds at each
abbrev pub IsLeastFrom : Table → ℕ → (ℕ → Type 0) → Option ℕ → Type 0
IsLeastFrom t c Holds None = (e : ℕ) → e < length t.ends → lo_of t e ≡ c → Holds e
IsLeastFrom t c Holds (Some n) = (n < length t.ends) × (lo_of t n ≡ c) × (Holds n → ⊥) × ((e : ℕ) → e < n → lo_of t e ≡ c → Holds e)

-- where the fact holds of n the least is as it was; else it is n, or the lesser one that it was
abbrev pub IsLeastWith : Type 0 → Option ℕ → ℕ → Option ℕ → Type 0
IsLeastWith holds least n None = holds × (least ≡ None)
IsLeastWith holds least n (Some m) = (holds × (least ≡ Some m)) ⊎ ((holds → ⊥) × (((least ≡ Some m) × (m < n)) ⊎ ((m ≡ n) × ((k : ℕ) → least ≡ Some k → n ≤ k))))

-- the legend gives each edge that begins before corner c the list above it
abbrev pub AreCoversBefore : Table → LegendRows → ℕ → Type 0
AreCoversBefore t rows c = (e : ℕ) → e < length t.ends → lo_of t e < c → list_above rows e ≡ cover_above t e
