-- A file by its place. The word: `bytes_at`.
use Rattle.std.specs.Prelude.{ℕ, List, [], Option, Some, None, slice_get}
use Rattle.std.specs.Option.{option_map_or}
use Rattle.loc_io.specs.declared.mem_file.MemFile.{MemFile}

-- its bytes, or none where there is no such file
abbrev pub bytes_at : List MemFile → Option ℕ → List ℕ
bytes_at files None = []
bytes_at files (Some i) = option_map_or (λ (f : MemFile). f.bytes.items) (slice_get files i) []
