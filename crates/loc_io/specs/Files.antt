-- Files in memory: `is_named` tests a file's name, `file_of` looks a file up, and `Puts`, `Grows` and
-- `KeepsAll` say what a change does to every name.
use Rattle.std.specs.Prelude.{◌≡◌, ℕ, Bool, List, ◌++◌, Option, Some, option_map, string_bytes, if◌then◌else◌}
use Rattle.std.specs.{List.find, Str.bytes_eq}
use Rattle.loc_io.specs.declared.mem_file.MemFile.{MemFile}

-- whether the file has this name
abbrev pub is_named : List ℕ → MemFile → Bool
is_named name f = bytes_eq (string_bytes f.name) name

-- the bytes of the first file with this name
abbrev pub file_of : List MemFile → List ℕ → Option (List ℕ)
file_of files name = option_map (λ (f : MemFile). f.bytes.items) (find (is_named name) files)

-- the file of this name has these bytes, and the others are as before
abbrev pub Puts : List ℕ → List ℕ → List MemFile → List MemFile → Type 0
Puts name bytes old new = (q : List ℕ) → file_of new q ≡ (if bytes_eq name q then Some bytes else file_of old q)

-- there was a file of this name, which has grown by the piece, and the others are as before
pub record Grows (name piece : List ℕ) (old new : List MemFile) : Type 0 where
  pub bytes : List ℕ
  pub there : file_of old name ≡ Some bytes
  pub puts : Puts name (bytes ++ piece) old new

-- every file is as before
abbrev pub KeepsAll : List MemFile → List MemFile → Type 0
KeepsAll old new = (q : List ℕ) → file_of new q ≡ file_of old q
