-- The edges that end at a corner and those that begin there. The words: `ending_among`, `row_of`, `IsFirstFrom`, `AreFirsts`, `IsBeginning`.
use Rattle.std.specs.Prelude.{◌≡◌, ℕ, ◌+◌, ◌<◌, ◌≤◌, ◌==◌, ◌↔◌, List, length, map, filter, slice_index, slice_index_or}
use Rattle.loc_spec_plane.specs.{Lists.numbers, Tables.Table, Tables.lo_of}

-- of the first n edges, given by the numbers of their ends, those whose upper end is corner c
abbrev pub ending_among : List (ℕ × ℕ) → ℕ → ℕ → List ℕ
ending_among ends n c = filter (λ e. (slice_index_or ends e (0, 0)).1 == c) (numbers n)

-- of items behind their keys, those whose key is c
abbrev pub row_of : {X : Type 0} → List (ℕ × X) → ℕ → List X
row_of {X} keyed c = map (λ (pair : ℕ × X). pair.1) (filter (λ (pair : ℕ × X). pair.0 == c) keyed)

-- of the edges, given by the numbers of their ends, the first n begin before corner c, and no other does
pub record IsFirstFrom (ends : List (ℕ × ℕ)) (c n : ℕ) : Type 0 where
  pub within : n ≤ length ends
  pub before : (e : ℕ) → e < n → (slice_index_or ends e (0, 0)).0 < c
  pub from : (e : ℕ) → n ≤ e → e < length ends → c ≤ (slice_index_or ends e (0, 0)).0

-- how many edges begin before each of so many corners, and before the one that would come next
pub record AreFirsts (ends : List (ℕ × ℕ)) (corners : ℕ) (firsts : List ℕ) : Type 0 where
  pub as_many : length firsts ≡ corners + 1
  pub are : (c : ℕ) → c ≤ corners → IsFirstFrom ends c (slice_index firsts c)

-- the edges from the first on and before the second are those whose lower end is corner c
pub record IsBeginning (t : Table) (c first past : ℕ) : Type 0 where
  pub in_order : first ≤ past
  pub within : past ≤ length t.ends
  pub exact : (e : ℕ) → e < length t.ends → (lo_of t e ≡ c) ↔ ((first ≤ e) × (e < past))
