-- What a reader of a text in form csv has left. The words: `TextReader`, `bytes_of`, `records_of`, `IsReading`, `TookFront`, `Takes`.
use Rattle.std.specs.Prelude.{◌≡◌, ℕ, ◌+◌, ◌<◌, ◌≤◌, Bool, true, false, List, [], ◌∷◌, length, Some, unwrap_or, All}
use Rattle.std.specs.Borrow.{Bor}
use Rattle.csv.specs.{Machine.ends_at_end, declared.reader.Reader.Reader}
use Rattle.csv.specs.Reading.{Ready, default_config, reader_config, reader_state, reader_trim, records_from, source_of}
use Rattle.csv.specs.declared.reader.Trim.TheVariants as trim

-- a reader of a text
abbrev pub TextReader : Type 0
TextReader = Reader (Bor (List ℕ))

-- the bytes that it has left
abbrev pub bytes_of : TextReader → List ℕ
bytes_of reader = unwrap_or (source_of (λ text. Some text.now) reader) []

-- the records that it has left
abbrev pub records_of : TextReader → List (List (List ℕ))
records_of reader = records_from default_config (length (bytes_of reader) + 1) (reader_state reader) (bytes_of reader)

-- it reads as the form is defined, and stands between two records
pub record IsReading (reader : TextReader) : Type 0 where
  pub config : reader_config reader ≡ default_config
  pub trim : reader_trim reader ≡ trim.None
  pub ready : Ready reader
  pub between : ends_at_end (reader_state reader) ≡ false
  pub bytes : source_of (λ text. Some text.now) reader ≡ Some (bytes_of reader)

-- a record of these fields was taken from the front of what was left
pub record TookFront (old new : TextReader) (fields : List (List ℕ)) : Type 0 where
  pub reading : IsReading new
  pub front : records_of old ≡ fields ∷ records_of new
  pub shorter : length (bytes_of new) < length (bytes_of old)
  pub short : All (λ field. length field ≤ length (bytes_of old)) fields

-- a record was found and taken, or there was none
abbrev pub Takes : TextReader → TextReader → List (List ℕ) → Bool → Type 0
Takes old new fields true = TookFront old new fields
Takes old new fields false = records_of old ≡ []
