-- Why bytes are refused: `IsRefused`; and what follows, as statements: `OneRefusal` and `NoRefusalOfFile`.
use Rattle.std.specs.Prelude.{◌≡◌, ◌≢◌, ℕ, List}
use Rattle.loc_spec_index.specs.{declared.IndexFault.IndexFault, Content.Content}
use Rattle.loc_spec_index.specs.declared.IndexFault.TheVariants as fault
use Rattle.loc_spec_index.specs.IndexFile.{IsFileOf, HasFault}

-- the first fault of the bytes; or memory was wanting, which says nothing of them
pub data IsRefused (bytes : List ℕ) : IndexFault → Type 0 where
  faulty : (f : IndexFault) → HasFault bytes f → IsRefused bytes f
  unheld : IsRefused bytes fault.NoMemory

-- bytes are refused by one fault at most, want of memory aside
abbrev pub OneRefusal : Type 0
OneRefusal = (bytes : List ℕ) (f g : IndexFault) → IsRefused bytes f → IsRefused bytes g → f ≢ fault.NoMemory → g ≢ fault.NoMemory → f ≡ g

-- the bytes of a file are refused by none
abbrev pub NoRefusalOfFile : Type 0
NoRefusalOfFile = (bytes : List ℕ) (v : ℕ) (c : Content) (f : IndexFault) → IsFileOf v c bytes → IsRefused bytes f → f ≡ fault.NoMemory
