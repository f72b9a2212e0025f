-- How a reader goes on through the bytes of a file. The words:
--   Left         the bytes that are still to be read, and the offset at which they begin
--   IsTaken      so many bytes were taken from the front
--   IsShort      fewer bytes are left than are needed
--   IsRead       fields were read, each right and each by its bytes
--   IsWrong      what is wrong at a field
--   IsFaultIn    what is wrong at the first of some fields that is not right
--   IsStop       why a reader stopped: IsRowStop, of a row; IsRowsStop, of the rows of a part
--   one, alone   a row that is one field; a row that is told by itself
--   two, three   a row that is two numbers, and one that is three
--   AreRows      the rows of a part were read, so many
use Rattle.std.specs.Prelude.{◌≡◌, ℕ, ◌+◌, ◌<◌, List, [], ◌∷◌, ◌++◌, length, Some, IsTrue}
use Rattle.std.specs.Int.{w32}
use Rattle.loc_spec_index.specs.declared.IndexFault.{IndexFault}
use Rattle.loc_spec_index.specs.declared.IndexFault.TheVariants as fault
use Rattle.loc_spec_index.specs.IndexFile.{Field, number, spelled, spelled_all, are_right, fault_at, with_bytes, rows_from}

-- the bytes that are left, and where they begin
pub record Left : Type 0 where
  pub rest : List ℕ
  pub offset : ℕ

-- so many bytes were taken from the front
pub record IsTaken (count : ℕ) (held : List ℕ) (earlier later : Left) : Type 0 where
  pub as_many : length held ≡ count
  pub taken : earlier.rest ≡ held ++ later.rest
  pub offset : later.offset ≡ earlier.offset + count

-- fewer bytes are left than are needed
pub record IsShort (count : ℕ) (here : Left) (f : IndexFault) : Type 0 where
  pub few : length here.rest < count
  pub need : f ≡ fault.Short (here.offset + count)

-- the fields were read: they are right, and their bytes were the front
pub record IsRead (fs : List Field) (earlier later : Left) : Type 0 where
  pub right : IsTrue (are_right fs)
  pub spelled : earlier.rest ≡ spelled_all fs ++ later.rest
  pub offset : later.offset ≡ earlier.offset + length (spelled_all fs)

-- the field ends past the bytes, or what the bytes hold in its place is wrong
pub data IsWrong (field : Field) (here : Left) : IndexFault → Type 0 where
  short : length here.rest < length (spelled field) → IsWrong field here (fault.Short (here.offset + length (spelled field)))
  wrong : (held rest : List ℕ) (f : IndexFault) → here.rest ≡ held ++ rest → length held ≡ length (spelled field) → fault_at here.offset (with_bytes held field) ≡ Some f → IsWrong field here f

-- some of the fields were read, and the next is wrong
pub record IsFaultIn (fs : List Field) (start : Left) (f : IndexFault) : Type 0 where
  pub earlier : List Field
  pub field : Field
  pub later : List Field
  pub here : Left
  pub stands : fs ≡ earlier ++ field ∷ later
  pub read : IsRead earlier start here
  pub wrong : IsWrong field here f

-- of some such thing, a field is the first that is wrong; or memory was wanting
pub data IsStop {X : Type 0} (P : X → Type 0) (fields_of : X → List Field) (start : Left) : IndexFault → Type 0 where
  stop : (x : X) (f : IndexFault) → P x → IsFaultIn (fields_of x) start f → IsStop P fields_of start f
  no_memory : IsStop P fields_of start fault.NoMemory

-- of some row a field is wrong
abbrev pub IsRowStop : {X : Type 0} → (X → List Field) → Left → IndexFault → Type 0
IsRowStop row = IsStop (λ _. Unit {0}) row

-- of some rows, so many, a field is wrong
abbrev pub IsRowsStop : {X : Type 0} → (List X → X → List Field) → ℕ → Left → IndexFault → Type 0
IsRowsStop row count = IsStop (λ xs. length xs ≡ count) (rows_from row [])

-- a row that is one field
abbrev pub one : {X : Type 0} → (X → Field) → X → List Field
one field x = field x ∷ []

-- a row that is two numbers, each with its bound
abbrev pub two : ℕ → ℕ → ℕ × ℕ → List Field
two first second ns = number w32 first ns.0 ∷ number w32 second ns.1 ∷ []

-- a row that is three
abbrev pub three : ℕ → ℕ → ℕ → ℕ × ℕ × ℕ → List Field
three first second third ns = number w32 first ns.0 ∷ number w32 second ns.1 ∷ number w32 third ns.2 ∷ []

-- a row that is told by itself
abbrev pub alone : {X : Type 0} → (X → List Field) → List X → X → List Field
alone row earlier x = row x

-- these rows, so many, were read
pub record AreRows {X : Type 0} (row : List X → X → List Field) (count : ℕ) (xs : List X) (earlier later : Left) : Type 0 where
  pub as_many : length xs ≡ count
  pub read : IsRead (rows_from row [] xs) earlier later
