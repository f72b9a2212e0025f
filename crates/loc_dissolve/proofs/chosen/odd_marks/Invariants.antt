use Rattle.std.proofs.Common.{◌≡◌, ℕ, map, true}
use Rattle.loc_spec_plane.specs.{declared.Mark.Mark, Lists.numbers}
use Rattle.loc_dissolve.proofs.chosen.odd_marks.Given as goal

-- the marks of the edges before stand there
abbrev pub invariant-loop-edge : goal.invariant-loop-edge
invariant-loop-edge l = l.marks.items ≡ map {B = ℕ × Mark} (λ k. (k, record { feature = 0; odd = true })) (numbers l.edge)
