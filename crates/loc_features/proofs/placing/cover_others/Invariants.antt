use Rattle.std.proofs.Common.{◌≡◌, ◌++◌, not, filter, take}
use Rattle.loc_spec_plane.specs.Lists.{is_in}
use Rattle.loc_laws_any.specs.Unions.{by_place}
use Rattle.loc_features.proofs.placing.cover_others.Given as goal

-- the numbers at the places before cover, but for those that touch
abbrev pub invariant-loop-place : goal.invariant-loop-place
invariant-loop-place l = record {
  covering : l.lists.covering ≡ l.fn.lists.covering ++ by_place l.numbers (filter (λ f. not (is_in f l.touching)) (take l.place-index l.places));
  touching : l.lists.touching ≡ l.fn.lists.touching;
}
