use Rattle.std.proofs.Common.{◌≡◌, map, take}
use Rattle.loc_laws_noding.specs.Search.{number_along}
use Rattle.loc_node.proofs.ways.numbered.Given as goal

-- the points before stand behind their numbers
abbrev pub invariant-loop-p : goal.invariant-loop-p
invariant-loop-p l = l.order.items ≡ map (λ p. (number_along l.edge p, p)) (take l.p-index l.points)
