use Rattle.std.proofs.Common.{◌≡◌, take}
use Rattle.loc_rings.specs.Flags.{flagged, unflagged}
use Rattle.loc_parts.proofs.rest.parted_by.Given as goal

-- the members that came so far, by their flags
abbrev pub invariant-loop-k : goal.invariant-loop-k
invariant-loop-k g l = record {
  kept : l.kept.items ≡ flagged l.keep (take l.k l.members);
  others : l.others.items ≡ unflagged l.keep (take l.k l.members);
}
