use Rattle.std.proofs.Common.{◌≡◌, ℕ, ◌+◌, ◌-◌, ◌*◌, ◌<◌, ◌≤◌, ◌++◌, map, take, get_or, None}
use Rattle.std.specs.Prelude.{replicate}
use Rattle.loc_spec_plane.specs.{declared.Place.Place, declared.Place.TheVariants.Area}
use Rattle.loc_place.specs.Found.{place_at}
use Rattle.loc_parts.specs.declared.parts.Part.{Part}
use Rattle.loc_features.specs.Places.{IsAt}
use Rattle.loc_features.proofs.placing.find_in.Given as goal

-- the places in the parts before are found
abbrev pub invariant-loop-k : goal.invariant-loop-k
invariant-loop-k g l = record {
  places : l.places ≡ map (λ (part : Part). place_at part.plane.table l.p) (take l.k l.parted.parts.items) ++ replicate (g.row.N - l.k) (Area None);
  known : (j : ℕ) (d : Part) (e : Place) → j < l.k → IsAt (get_or l.parted.parts.items j d) l.p (get_or l.places j e);
  up : l.fn.steps ≤ l.steps;
  within : l.steps ≤ l.fn.steps + 63 * l.k;
}
