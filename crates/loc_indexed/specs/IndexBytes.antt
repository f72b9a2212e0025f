-- The bytes of an index file, in whichever version: `IsIndexFile`.
use Rattle.std.specs.Prelude.{ℕ}
use Rattle.loc_spec_text.specs.Bytes.{Text}
use Rattle.loc_spec_index.specs.{Content.Content, IndexFile.IsFileOf}

-- the bytes are the file of the content in one of the versions
abbrev pub IsIndexFile : Content → Text → Type 0
IsIndexFile c bytes = (v : ℕ) × IsFileOf v c bytes
