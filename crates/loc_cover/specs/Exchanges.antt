-- Features exchanged in a list that rises: `IsExchange` and `is_marked_odd`.
use Rattle.std.specs.Prelude.{◌≡◌, ℕ, Bool, ◌&&◌, List, nat_lt, ◌==◌, IsTrue}
use Rattle.std.specs.List.{list_any}
use Rattle.loc_spec_plane.specs.{Lists.exactly_one, Lists.is_in, Lists.is_rising, declared.Mark.Mark}

-- ys rises, and has f exactly where xs has it not, and else the members of xs
pub record IsExchange (f : ℕ) (xs ys : List ℕ) : Type 0 where
  pub rising : IsTrue (is_rising nat_lt ys)
  pub exact : (n : ℕ) → is_in n ys ≡ exactly_one (f == n) (is_in n xs)

-- one of the marks is odd, and of this feature
abbrev pub is_marked_odd : List Mark → ℕ → Bool
is_marked_odd marks f = list_any (λ (m : Mark). (m.feature == f) && m.odd) marks
