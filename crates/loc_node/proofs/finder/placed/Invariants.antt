use Rattle.std.proofs.Common.{◌≡◌, ℕ, map, take}
use Rattle.loc_spec_plane.specs.Points.{Point}
use Rattle.loc_node.proofs.finder.placed.Given as goal

abbrev pub invariant-loop-p : goal.invariant-loop-p
invariant-loop-p l = map (λ (k : ℕ × Point). k.1) l.keyed.items ≡ take l.p-index l.corners
