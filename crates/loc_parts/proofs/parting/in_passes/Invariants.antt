use Rattle.std.proofs.Common.{◌≤◌, [], ◌∷◌, length}
use Rattle.loc_parts.specs.Parts.{IsPartedBut, IsRestOf}
use Rattle.loc_parts.proofs.parting.in_passes.Given as goal

-- one part at most for each pass so far, and what is in no part yet
abbrev pub invariant-loop-turn : goal.invariant-loop-turn
invariant-loop-turn l = record {
  few : length l.parts.items ≤ l._turn;
  rest : IsRestOf l.layer l.rest.numbers.items l.rest.features;
  parted : IsPartedBut l.layer (l.rest.numbers.items ∷ []) l.parts.items l.left.items;
}
