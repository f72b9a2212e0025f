-- The names of the lowest and of the highest trapezoid at a corner. The words:
--   starts_apart           a bound is missing, or does not begin at a corner
--   bound_of, is_kind      the bound of a kind; a trapezoid is of the kind
--   IsNamable              a trapezoid can be named: its left has a name, its bounds are edges
--   IsOneOfAKind           of the rows from n on at most one is of a kind at each corner
use Rattle.std.specs.Prelude.{◌≡◌, ℕ, ◌<◌, ◌≤◌, Bool, true, not, length, Option, ◌==◌, IfSome}
use Rattle.loc_spec_plane.specs.{declared.Trap.Trap, Tables.Table, Tables.lo_of, Traps.or_missing}
use Rattle.loc_laws_traps.specs.Sets.{is_lowest_at, is_highest_at}
use Rattle.loc_traps.specs.declared.names.Kind.{Kind}
use Rattle.loc_traps.specs.declared.names.Kind.TheVariants.{Lowest, Highest}

-- the bound is missing, or begins at another corner
abbrev pub starts_apart : Table → ℕ → Option ℕ → Bool
starts_apart t c bound = or_missing (λ a. not (lo_of t a == c)) bound

-- the bound of a kind, and whether a trapezoid is of the kind at a corner
abbrev pub bound_of : Kind → Trap → Option ℕ
bound_of Lowest trap = trap.bottom
bound_of Highest trap = trap.top

abbrev pub is_kind : Kind → Table → ℕ → Trap → Bool
is_kind Lowest t = is_lowest_at t
is_kind Highest t = is_highest_at t

-- the left is below so many, and the bounds are edges
pub record IsNamable (t : Table) (many : ℕ) (trap : Trap) : Type 0 where
  pub left : IfSome trap.left (λ c. c < many)
  pub bottom : IfSome trap.bottom (λ e. e < length t.ends)
  pub top : IfSome trap.top (λ e. e < length t.ends)

-- at each corner at most one of the rows from n to m is of the kind
abbrev pub IsOneOfAKind : ℕ → ℕ → (ℕ → Trap) → (ℕ → Trap → Bool) → Type 0
IsOneOfAKind n m row kind = (c i j : ℕ) → n ≤ i → i < m → n ≤ j → j < m → kind c (row i) ≡ true → kind c (row j) ≡ true → i ≡ j
