use Rattle.std.proofs.Common.{◌≡◌, ◌++◌, map, take}
use Rattle.loc_spec_plane.specs.declared.Mark.{Mark}
use Rattle.loc_cover.proofs.touching.add_features.Given as goal

-- the features of the marks before stand behind
abbrev pub invariant-loop-mark : goal.invariant-loop-mark
invariant-loop-mark l = l.row.items ≡ l.fn.row.items ++ map (λ (m : Mark). m.feature) (take l.mark-index l.marks)
