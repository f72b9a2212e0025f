-- The order in which edges are added, and the text of one. The words:
--   IsOrder                        each edge stands once, and nothing else
--   digits_of, rest_of, line_number  the number of a line
--   Row, row_of, rows_from, order_rows  the lines that are not blank, by number
--   has_number, fault_at, fault_behind, numbers_of, missing_edge  what is wrong with rows
--   order_of                       the order of a text, or its one fault
--   IsFreeFault                    the fault of the least edge that has no line
--   IsFaultOf                      a fault, unless it is want of memory
--   IsCapped                       a number that is read up to a cap
--   shuffled_order                 the order shuffled from a number
use Rattle.std.specs.Prelude.{◌≡◌, ℕ, ◌^◌, min, Bool, false, not, ◌&&◌, List, [], ◌∷◌, ◌++◌, ◌<◌, ◌≢◌, length, get_or, map, filter, filter_map, find, count_by, nat_lt, nat_le, ◌==◌, if◌then◌else◌, Option, Some, None, option_map, Result, Err}
use Rattle.std.specs.{Char.is_ascii_digit, Str.Parse.digits_value, List.enumerate_from, List.take_while}
use Rattle.rand.specs.Shuffle.{shuffled}
use Rattle.rand_core.specs.{Steps.stream_of, Steps.steps_u32, Pcg32Seed.pcg32_seed}
use Rattle.rand_pcg.specs.Pcg.{pcg32, pcg32_of_seed}
use Rattle.loc_spec_plane.specs.Lists.{numbers, is_in}
use Rattle.loc_spec_text.specs.Bytes.{is_blank, lines, drop_while, without_front, or_else, ok_unless}
use Rattle.loc_trapdag.specs.declared.order.OrderFault.{OrderFault}
use Rattle.loc_trapdag.specs.declared.order.OrderFault.TheVariants.{NotNumber, OutOfRange, Twice, Missing, NoMemory}

-- each of so many edges stands once, and nothing else stands there
abbrev pub IsOrder : ℕ → List ℕ → Type 0
IsOrder edges order = (e : ℕ) → count_by (λ m. m == e) order ≡ (if nat_lt e edges then 1 else 0)

-- the digits of a line behind white space at its front, and what follows them
abbrev pub digits_of : List ℕ → List ℕ
digits_of line = take_while is_ascii_digit (without_front line)

abbrev pub rest_of : List ℕ → List ℕ
rest_of line = drop_while is_ascii_digit (without_front line)

-- the number of a line: 1 to 20 digits with white space around
abbrev pub line_number : List ℕ → Option ℕ
line_number line = if is_blank (rest_of line) && (nat_lt 0 (length (digits_of line)) && nat_le (length (digits_of line)) 20) then Some (digits_value 10 (digits_of line)) else None

-- a line that is not blank: its own number, and the number that it reads as
pub record Row : Type 0 where
  pub line : ℕ
  pub number : Option ℕ

-- the row of a numbered line
abbrev pub row_of : ℕ × List ℕ → Row
row_of (n, line) = record { line = n; number = line_number line }

-- a line of white space alone is counted, and is no row
abbrev pub is_row : ℕ × List ℕ → Bool
is_row (n, line) = not (is_blank line)

-- the rows of a text, whose first line has this number
abbrev pub rows_from : ℕ → List ℕ → List Row
rows_from n text = map row_of (filter is_row (enumerate_from n (lines text)))

-- the row reads as this number
abbrev pub has_number : ℕ → Row → Bool
has_number e row = is_number e row.number
  where
    is_number : ℕ → Option ℕ → Bool
    is_number e None = false
    is_number e (Some m) = m == e

-- what is wrong with a row behind others: it is no number, else out of range, else the number of an earlier one
abbrev pub number_fault : ℕ → List Row → ℕ → Option ℕ → Option OrderFault
number_fault edges earlier line None = Some (NotNumber line)
number_fault edges earlier line (Some e) = if nat_lt e edges then option_map (λ (row : Row). Twice line row.line) (find (has_number e) earlier) else Some (OutOfRange line)

abbrev pub fault_at : ℕ → List Row → Row → Option OrderFault
fault_at edges earlier row = number_fault edges earlier row.line row.number

-- the fault of the first row that has one
abbrev pub fault_behind : ℕ → List Row → List Row → Option OrderFault
fault_behind edges earlier [] = None
fault_behind edges earlier (row ∷ rows) = or_else (fault_at edges earlier row) (fault_behind edges (earlier ++ row ∷ []) rows)

-- the numbers of the rows, in order
abbrev pub numbers_of : List Row → List ℕ
numbers_of rows = filter_map (λ (row : Row). row.number) rows

-- the least edge that is in no row
abbrev pub missing_edge : ℕ → List Row → Option ℕ
missing_edge edges rows = find (λ e. not (is_in e (numbers_of rows))) (numbers edges)

-- the order of the rows, or their one fault
abbrev pub order_from : ℕ → List Row → Result (List ℕ) OrderFault
order_from edges rows = ok_unless (or_else (fault_behind edges [] rows) (option_map (λ e. Missing e) (missing_edge edges rows))) (numbers_of rows)

-- the order of a text for so many edges, or its one fault
abbrev pub order_of : ℕ → List ℕ → Result (List ℕ) OrderFault
order_of edges text = order_from edges (rows_from 1 text)

-- the fault names an edge whose line is 0, and before which each edge has a line
abbrev pub IsFreeFault : ℕ → List ℕ → OrderFault → Type 0
IsFreeFault edges line_of fault = (e : ℕ) × (fault ≡ Missing e) × (e < edges) × (get_or line_of e 0 ≡ 0) × ((d : ℕ) → d < e → get_or line_of d 0 ≢ 0)

-- the fault of what is read, unless it is want of memory
abbrev pub IsFaultOf : Result (List ℕ) OrderFault → OrderFault → Type 0
IsFaultOf read NoMemory = Unit {0}
IsFaultOf read (NotNumber line) = read ≡ Err (NotNumber line)
IsFaultOf read (OutOfRange line) = read ≡ Err (OutOfRange line)
IsFaultOf read (Twice line earlier) = read ≡ Err (Twice line earlier)
IsFaultOf read (Missing edge) = read ≡ Err (Missing edge)

-- a number is read as it is, or as the cap where it is not below it
abbrev pub IsCapped : Option ℕ → Option ℕ → Type 0
IsCapped number read = read ≡ option_map (λ n. min n (2 ^ 32)) number

-- the edges by number, shuffled (Fisher and Yates) by what a small generator (PCG) draws that is started from a number
abbrev pub shuffled_order : ℕ → ℕ → List ℕ
shuffled_order start edges = (shuffled (numbers edges) 0 (stream_of (steps_u32 pcg32) (pcg32_of_seed (pcg32_seed 16 start)))).0
