-- What a fault of a layer says of its text. The word: `IsFaultOf`.
use Rattle.std.specs.Prelude.{◌≡◌, ◌≢◌, Result, Err, ⊤}
use Rattle.loc_spec_text.specs.declared.TextFault.TheVariants as t
use Rattle.loc_csvform.specs.declared.faults.LayerFault.{LayerFault}
use Rattle.loc_csvform.specs.declared.faults.LayerFault.TheVariants as f

-- the fault is that of what was to be read; want of memory says nothing of it, and is the fault of no text
abbrev pub IsFaultOf : {X : Type 0} → Result X LayerFault → LayerFault → Type 0
IsFaultOf read f.NoMemory = ⊤
IsFaultOf read (f.Text row fault) = (read ≡ Err (f.Text row fault)) × (fault ≢ t.NoMemory)
IsFaultOf read f.NoColumn = read ≡ Err f.NoColumn
IsFaultOf read (f.Ragged row) = read ≡ Err (f.Ragged row)
IsFaultOf read (f.BadText row) = read ≡ Err (f.BadText row)
IsFaultOf read (f.LongId row) = read ≡ Err (f.LongId row)
IsFaultOf read (f.ManyFeatures row) = read ≡ Err (f.ManyFeatures row)
IsFaultOf read (f.ManyPoints row) = read ≡ Err (f.ManyPoints row)
