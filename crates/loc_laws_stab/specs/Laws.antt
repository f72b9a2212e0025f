-- Laws of the edges on a vertical span, as statements. The words: `RunLaw`, `OneMetList`.
use Rattle.std.specs.Prelude.{◌≡◌, ℕ, true, false, not, List, ◌++◌}
use Rattle.loc_spec_plane.specs.{Lists.is_in, Lists.IsRisingListOf, Points.Point, Points.is_above, Points.is_below}
use Rattle.loc_spec_plane.specs.Tables.{Table, IsTable, NoConflict, edge}
use Rattle.loc_spec_plane.specs.Places.{IsListAt, lower_of}
use Rattle.loc_spec_plane.specs.Spans.{IsSpan, IsMetList, met_at, is_on_line}
use Rattle.loc_laws_stab.specs.Fronts.{passing_front}

-- of the list at the low point, what is met stands behind what has the low point above it, up to the first that has the high point below it
abbrev pub RunLaw : Type 0
RunLaw = (t : Table) → NoConflict t → (low high : Point) → IsSpan low high → (es front rest : List ℕ) → IsListAt t low es → front ++ rest ≡ es
    → ((m : ℕ) → is_in m front ≡ true → is_above (edge t m) low ≡ true) → ((m : ℕ) → is_in m rest ≡ true → is_above (edge t m) low ≡ false)
    → IsRisingListOf (lower_of t) (is_on_line t low high) (passing_front (λ e. not (is_below (edge t e) high)) rest)

-- there is no list of the edges met but the computed one
abbrev pub OneMetList : Type 0
OneMetList = (t : Table) → IsTable t → NoConflict t → (low high : Point) (es : List ℕ) → IsMetList t low high es → es ≡ met_at t low high
