use Rattle.std.proofs.Common.{◌≡◌, ◌++◌, take}
use Rattle.loc_laws_any.specs.Unions.{by_place}
use Rattle.loc_features.proofs.placing.touch_all.Given as goal

-- the numbers at the places before touch
abbrev pub invariant-loop-place : goal.invariant-loop-place
invariant-loop-place l = record {
  touching : l.lists.touching ≡ l.fn.lists.touching ++ by_place l.numbers (take l.place-index l.places);
  covering : l.lists.covering ≡ l.fn.lists.covering;
}
