use Rattle.std.proofs.Common.{◌≡◌, ℕ, map, take}
use Rattle.loc_spec_plane.specs.Points.{Point}
use Rattle.loc_node.proofs.finder.points_of.Given as goal

abbrev pub invariant-loop-pair : goal.invariant-loop-pair
invariant-loop-pair l = l.points.items ≡ map (λ (k : ℕ × Point). k.1) (take l.pair-index l.keyed)
