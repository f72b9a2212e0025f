-- The list of edges that the line of a sweep meets at a corner, and on both sides of it: `IsChainOf`.
use Rattle.std.specs.Prelude.{◌≡◌, ℕ, ◌<◌, ◌≤◌, ◌==◌, ◌↔◌, Bool, not, ◌&&◌, ◌||◌, List, length, filter, Option, Some, None, IsTrue, nat_lt}
use Rattle.loc_spec_plane.specs.{Points.conflict, Lists.is_in, Places.is_edge}
use Rattle.loc_spec_plane.specs.Tables.{Table, edge, lo_of, hi_of, edge_numbers}
use Rattle.loc_status.specs.Lists.{is_chain_at}

-- the list is a chain at corner c, of exactly the edges that pass the test
pub record IsChainOf (t : Table) (c : ℕ) (test : ℕ → Bool) (es : List ℕ) : Type 0 where
  pub chain : IsTrue (is_chain_at t c es)
  pub exact : (n : ℕ) → is_in n es ≡ test n

-- edge n begins before corner c and does not end before it
abbrev pub reaches : Table → ℕ → ℕ → Bool
reaches t c n = is_edge t n && (nat_lt (lo_of t n) c && not (nat_lt (hi_of t n) c))

-- edge n begins before corner c and ends behind it
abbrev pub goes_past : Table → ℕ → ℕ → Bool
goes_past t c n = is_edge t n && (nat_lt (lo_of t n) c && nat_lt c (hi_of t n))

-- the edges that end at corner c, in order
abbrev pub ending_at : Table → ℕ → List ℕ
ending_at t c = filter (λ e. hi_of t e == c) (edge_numbers t)

-- the edges that begin before corner c are the first k
pub record IsBegun (t : Table) (c k : ℕ) : Type 0 where
  pub within : k ≤ length t.ends
  pub exact : (n : ℕ) → n < length t.ends → (lo_of t n < c) ↔ (n < k)

-- two edges, where there are both, do not conflict
abbrev pub AreApart : Table → Option ℕ → Option ℕ → Type 0
AreApart t None b = Unit {0}
AreApart t (Some a) None = Unit {0}
AreApart t (Some a) (Some b) = IsTrue (not (conflict (edge t a) (edge t b)))

-- the number, where there is one, is that of an edge
abbrev pub IsInRange : Table → Option ℕ → Type 0
IsInRange t None = Unit {0}
IsInRange t (Some e) = e < length t.ends

-- edge e is gone, and no other
abbrev pub IsWithout : ℕ → List ℕ → List ℕ → Type 0
IsWithout e old new = (n : ℕ) → is_in n new ≡ (is_in n old && not (n == e))

-- edge e has come, and no other
abbrev pub IsWith : ℕ → List ℕ → List ℕ → Type 0
IsWith e old new = (n : ℕ) → is_in n new ≡ (is_in n old || (n == e))
