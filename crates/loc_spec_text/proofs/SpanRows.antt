-- Worked rows: spans over the square from 0 0 to 4 4, by hand.
use Rattle.std.proofs.Common.{◌≡◌, ℕ, List, [], ◌∷◌, codes, refl, map}
use Rattle.std.specs.Fmt.{digits}
use Rattle.loc_spec_plane.specs.{Points.turn, Tables.table_of, Tables.table_by, Spans.met_at}
use Rattle.loc_spec_plane.proofs.Rows.{square}
use Rattle.loc_spec_text.specs.{Number.scaled, Number.unit, Spans.span_of, Spans.span_answer}

-- the answer to a line, at scale 0 over the square
abbrev answer : List ℕ → List ℕ
answer line = span_answer (span_of 0) (λ span. met_at (table_of square) span.0 span.1) line

-- up the middle; up the left side from under it; up the right side from its lower corner; inside; and downwards, which is no span
pub square_answers : map answer (codes "2 -1 5" ∷ codes "0 -1 5" ∷ codes "4 0 4" ∷ codes "3 1 2" ∷ codes "2 5 1" ∷ [])
    ≡ codes "edges 1 2" ∷ codes "edges 0 1 2" ∷ codes "edges 1 3 2" ∷ codes "edges" ∷ codes "unread" ∷ []
unfolding met_at table_by turn scaled unit digits
square_answers = refl
