use Rattle.std.proofs.Common.{◌≡◌, map, take}
use Rattle.loc_cover.proofs.legend.rows_of.Given as goal

-- the lists before stand in rows
abbrev pub invariant-loop-list : goal.invariant-loop-list
invariant-loop-list g l = l.rows ≡ map (λ list. list.items) (take l.list-index l.lists)
