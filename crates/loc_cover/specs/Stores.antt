-- The distinct lists that were found so far: `StoreRows`, `IsStore`, `short_list`, `AreShort`, `is_among`, `IsAt`, `GainsAtMost` and `IsPast`.
use Rattle.std.specs.Prelude.{◌≡◌, ℕ, zero, suc, ◌<◌, ◌≤◌, nat_lt, Bool, List, [], ◌∷◌, ◌++◌, ◌⊎◌, length, get_or, map, sum_by, Option, Some, None, IsTrue}
use Rattle.std.specs.{List.list_all, List.list_any, Cmp.Lexicographic.slice_cmp, Ordering.is_eq, Ordering.nat_cmp}
use Rattle.loc_spec_plane.specs.{Lists.is_in, Lists.is_rising, Lists.sorted_set, Covers.list_before}
use Rattle.loc_spec_text.specs.Limits.{most_members}
use Rattle.loc_cover.specs.declared.fault.LegendFault.{LegendFault}
use Rattle.loc_cover.specs.declared.fault.LegendFault.TheVariants.{ManyCovers, NoMemory}

-- lists by number, the lists in lexicographic order, their numbers in that order, and how many members they have together
pub record StoreRows : Type 0 where
  pub rows : List (List ℕ)
  pub lists : List (List ℕ)
  pub order : List ℕ
  pub members : ℕ

-- the rows in an order
abbrev pub lists_in : List (List ℕ) → List ℕ → List (List ℕ)
lists_in rows order = map (λ n. get_or rows n []) order

-- the lists in their order
abbrev pub lists_of : StoreRows → List (List ℕ)
lists_of s = lists_in s.rows s.order

-- each list stands in one row, and the order names each row
pub record IsStore (s : StoreRows) : Type 0 where
  pub rising : IsTrue (is_rising list_before (lists_of s))
  pub named : s.lists ≡ lists_of s
  pub as_many : length s.order ≡ length s.rows
  pub within : IsTrue (list_all (λ n. nat_lt n (length s.rows)) s.order)
  pub placed : (n : ℕ) → n < length s.rows → IsTrue (is_in n s.order)
  pub counted : s.members ≡ sum_by length (lists_of s)
  pub few : s.members ≤ most_members

-- the lists of at most one feature: the empty one, and then that of each feature alone
abbrev pub short_list : ℕ → List ℕ
short_list zero = []
short_list (suc f) = f ∷ []

-- the numbers noted of those are those of their rows
abbrev pub AreShort : List (List ℕ) → List (Option ℕ) → Type 0
AreShort rows numbers = (k n : ℕ) → get_or numbers k None ≡ Some n → (n < length rows) × (get_or rows n [] ≡ short_list k)

-- the list is one of the lists
abbrev pub is_among : List ℕ → List (List ℕ) → Bool
is_among list lists = list_any (λ other. is_eq (slice_cmp nat_cmp list other)) lists

-- the list stands at place k of the lists
pub record IsAt (lists : List (List ℕ)) (list : List ℕ) (k : ℕ) : Type 0 where
  pub fits : k < length lists
  pub at : get_or lists k [] ≡ list

-- there are the same rows, or one more
abbrev pub GainsAtMost : List ℕ → List (List ℕ) → List (List ℕ) → Type 0
GainsAtMost list old new = (new ≡ old) ⊎ (new ≡ old ++ list ∷ [])

-- these lists are too long together; want of memory may come at any time
abbrev pub IsPast : List (List ℕ) → LegendFault → Type 0
IsPast lists ManyCovers = most_members < sum_by length (sorted_set list_before lists)
IsPast lists NoMemory = Unit {0}
