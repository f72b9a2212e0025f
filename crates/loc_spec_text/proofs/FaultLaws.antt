-- The first of several faults.
use Rattle.std.proofs.Common.{◌≡◌, Option, Some, None, refl}
use Rattle.loc_spec_text.specs.Bytes.{or_else}

-- the first of three
pub or_else-assoc : {X : Type 0} (a b c : Option X) → or_else (or_else a b) c ≡ or_else a (or_else b c)
or_else-assoc None b c = refl
or_else-assoc (Some x) b c = refl
