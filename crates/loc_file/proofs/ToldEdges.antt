-- Edges as they are read, as rows of a version.
use Rattle.std.proofs.Common.{◌≡◌, ℕ, Bool, true, false, List, [], ◌∷◌, map, refl}
use Rattle.std.specs.Prelude.{Option, Some, option_map, if◌then◌else◌}
use Rattle.std.specs.{Int.w32, List.last_or}
use Rattle.loc_spec_index.specs.IndexFile.{names_sources, number, source_fields}
use Rattle.loc_file.specs.{declared.edges.EdgeOf.EdgeOf, Told.told, Told.told_source}

-- the last of the rows is that of the last edge
pub last-told : (v : ℕ) (o : Option EdgeOf) (es : List EdgeOf) → last_or (option_map (told v) o) (map (told v) es) ≡ option_map (told v) (last_or o es)
last-told v o [] = refl
last-told v o (e ∷ es) = last-told v (Some e) es

-- the fields of a source are those of the one that is told
pub told-source : (v nv : ℕ) (e : EdgeOf) → source_fields v nv (told_source v e) ≡ source_fields v nv e.source
told-source v nv e = by (names_sources v)
  where
    by : (b : Bool) → (if b then number w32 nv (if b then e.source else e.ends).0 ∷ number w32 nv (if b then e.source else e.ends).1 ∷ [] else []) ≡ (if b then number w32 nv e.source.0 ∷ number w32 nv e.source.1 ∷ [] else [])
    by true = refl
    by false = refl
