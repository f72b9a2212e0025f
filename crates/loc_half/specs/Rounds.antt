-- Going round by the nexts, and the marks that it leaves. The words:
--   next_of, IsPermuting       the next of a half-edge; different half-edges have different nexts
--   after, IsRound, IsOnRound  so many steps on; a way that comes back to its first half-edge; a half-edge on a marked one
--   AreMarked                  a mark is the least half-edge of the round, and all before a number are marked
--   leader_among               the least half-edge of an orbit
use Rattle.std.specs.Prelude.{◌≡◌, ◌≢◌, ℕ, zero, suc, ◌<◌, ◌≤◌, List, ◌∷◌, length, get_or}
use Rattle.loc_spec_plane.specs.{Lists.least_of, HalfEdges.way_to}

-- the next of a half-edge
abbrev pub next_of : List ℕ → ℕ → ℕ
next_of nexts h = get_or nexts h 0

-- each half-edge has a next, and different ones have different nexts
pub record IsPermuting (nexts : List ℕ) : Type 0 where
  pub in_range : (h : ℕ) → h < length nexts → next_of nexts h < length nexts
  pub one : (g h : ℕ) → g < length nexts → h < length nexts → next_of nexts g ≡ next_of nexts h → g ≡ h

-- where one comes from h in so many steps
abbrev pub after : (ℕ → ℕ) → ℕ → ℕ → ℕ
after next zero h = h
after next (suc k) h = next (after next k h)

-- the way from the first half-edge is back there after the period and not before, and meets none below it
pub record IsRound (nexts : List ℕ) (first period : ℕ) : Type 0 where
  pub few : period ≤ length nexts
  pub closes : after (next_of nexts) period first ≡ first
  pub in_range : (j : ℕ) → j < period → after (next_of nexts) j first < length nexts
  pub apart : (i j : ℕ) → i < j → j < period → after (next_of nexts) i first ≢ after (next_of nexts) j first
  pub least : (j : ℕ) → j < period → first ≤ after (next_of nexts) j first

-- g is on a round of which every half-edge is marked with the first
pub record IsOnRound (nexts marks : List ℕ) (g : ℕ) : Type 0 where
  pub first : ℕ
  pub period : ℕ
  pub place : ℕ
  pub round : IsRound nexts first period
  pub within : place < period
  pub here : after (next_of nexts) place first ≡ g
  pub marked : (j : ℕ) → j < period → get_or marks (after (next_of nexts) j first) 0 ≡ first

-- the number of half-edges stands where there is no mark; what has a mark is on a marked round, and all half-edges before the number have one
pub record AreMarked (nexts marks : List ℕ) (done : ℕ) : Type 0 where
  pub as_many : length marks ≡ length nexts
  pub all_before : (g : ℕ) → g < done → get_or marks g 0 ≢ length nexts
  pub on_rounds : (g : ℕ) → g < length nexts → get_or marks g 0 ≢ length nexts → IsOnRound nexts marks g

-- the least half-edge of the orbit of h, of n half-edges
abbrev pub leader_among : ℕ → (ℕ → ℕ) → ℕ → ℕ
leader_among n next h = least_of h (h ∷ way_to next h n (next h))
