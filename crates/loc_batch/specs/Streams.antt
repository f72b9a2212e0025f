-- What is written of answers: `line_of`, `text_of`; how often what was answered: `tally_of`; and the line that a text may end with: `last_line`.
use Rattle.std.specs.Prelude.{ℕ, ◌+◌, ◌-◌, ◌^◌, min, List, [], ◌∷◌, length}
use Rattle.std.specs.List.{flat_map}
use Rattle.loc_spec_text.specs.Points.{Answer, on_corner, on_border, in_face, no_point, answer_text, ended}
use Rattle.loc_batch.specs.declared.tally.Tally.{Tally}

-- an unfinished line is a line at the end of the text, unless it is empty
abbrev pub last_line : List ℕ → List (List ℕ)
last_line [] = []
last_line (b ∷ rest) = (b ∷ rest) ∷ []

-- an answer line with its LF
abbrev pub line_of : Answer → List ℕ
line_of a = ended (answer_text a)

-- the lines of answers
abbrev pub text_of : List Answer → List ℕ
text_of answers = flat_map line_of answers

-- a count that stands still at its last value
abbrev pub plus : ℕ → ℕ → ℕ
plus a b = min (a + b) (2 ^ 64 - 1)

-- a tally with one answer more
abbrev pub with_one : Answer → Tally → Tally
with_one (on_corner n on covering) t = record t { lines = plus t.lines 1; corners = plus t.corners 1; on = plus t.on (length on); covering = plus t.covering (length covering) }
with_one (on_border e on covering) t = record t { lines = plus t.lines 1; borders = plus t.borders 1; on = plus t.on (length on); covering = plus t.covering (length covering) }
with_one (in_face face covering) t = record t { lines = plus t.lines 1; faces = plus t.faces 1; covering = plus t.covering (length covering) }
with_one no_point t = record t { lines = plus t.lines 1; unread = plus t.unread 1 }

-- a tally with the entries of two lists more
abbrev pub with_lists : ℕ → ℕ → Tally → Tally
with_lists on covering t = record t { on = plus t.on on; covering = plus t.covering covering }

-- a tally with these answers more
abbrev pub tally_of : Tally → List Answer → Tally
tally_of t [] = t
tally_of t (a ∷ answers) = tally_of (with_one a t) answers
