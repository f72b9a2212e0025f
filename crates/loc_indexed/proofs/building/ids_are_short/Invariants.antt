use Rattle.std.proofs.Common.{◌≤◌, length, take}
use Rattle.std.specs.Prelude.{All}
use Rattle.loc_laws_index.specs.IndexReading.{AreBytes}
use Rattle.loc_rings.specs.Values.{Feature}
use Rattle.loc_spec_text.specs.Limits.{most_id_bytes}
use Rattle.loc_indexed.proofs.building.ids_are_short.Given as goal

-- the ids of the features before are short, and of bytes
abbrev pub invariant-loop-feature : goal.invariant-loop-feature
invariant-loop-feature l = All (λ (f : Feature). (length f.id ≤ most_id_bytes) × AreBytes f.id) (take l.feature-index l.feature-items)
