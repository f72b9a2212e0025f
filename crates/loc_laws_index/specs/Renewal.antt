-- A content that reads in any version may be written in the second. The word: `RenewLaw`.
use Rattle.std.specs.Prelude.{ℕ, List}
use Rattle.loc_spec_index.specs.{Content.Content, IndexFile.IsFileOf, IndexFile.bytes_of}

-- its bytes in the second version are its file
abbrev pub RenewLaw : Type 0
RenewLaw = (bytes : List ℕ) (v : ℕ) (c : Content) → IsFileOf v c bytes → IsFileOf 2 c (bytes_of 2 c)
