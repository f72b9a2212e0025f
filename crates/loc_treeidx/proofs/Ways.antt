-- The end of a walk down the present tree: at a missing child, or at the node of the edge where it stops.
use Rattle.std.proofs.Common.{◌≡◌, ℕ, ◌-◌, ◌<◌, Bool, true, List, length, refl, ◌∙◌, subst, Option, Some, None}
use Rattle.std.specs.Prelude.{IfSome}
use Rattle.loc_pool.specs.{declared.Link.Link, declared.Turn.Turn}
use Rattle.loc_pool.specs.Rows as pool
use Rattle.loc_persist.specs.Meaning.{VersionsMeaning, present_nodes}
use Rattle.loc_spec_plane.specs.Lists.{is_in}
use Rattle.loc_spec_plane.specs.Tables.{Table, IsTable, edge, lo_of, hi_of}
use Rattle.loc_status.specs.declared.targets.Target.TheVariants.{Begin, End}
use Rattle.loc_status.specs.{Lists.is_chain_at, Targets.is_passed, Targets.IsSearchEnd}
use Rattle.loc_status.proofs.{Beginning.begins_below, Standing.found_by_end}
use Rattle.loc_treeidx.specs.declared.walk.Way.{Way}
use Rattle.loc_treeidx.specs.Gaps.{IsDescent, IsEnd, IsPlaceFor, IsWay}
use Rattle.loc_treeidx.proofs.{Beside.place_at, Descents.above_there, Descents.descent-end, Descents.search_there}

-- a walk with no edge to stop at ends at a missing child
pub never_stops : (m : VersionsMeaning) (next : Option Link) → IfSome next (λ at. None ≡ Some (pool.row m.rows at).item) → next ≡ None
never_stops m None stops = refl
never_stops m (Some at) stops = cc

module _ (passes : ℕ → Bool) (stop : Option ℕ) (m : VersionsMeaning) (path : List (Link × Turn)) (way : Way) (is_way : IsWay passes stop m path way) where
  -- a missing child parts the list
  pub way_end : way.next ≡ None → IsEnd (present_nodes m) m.list path way.beside.below way.beside.above
  way_end none = descent-end (present_nodes m) m.list path way.beside.below way.beside.above (subst (λ (o : Option Link). IsDescent (present_nodes m) m.list path o way.beside.below way.beside.above) none is_way.descent)

  -- and the search by the test ends there
  pub way_search : (none : way.next ≡ None) → IsSearchEnd passes m.list (length (way_end none).front)
  way_search none = search_there (present_nodes m) m.list path way.beside.below way.beside.above (way_end none) passes is_way.passed is_way.reached

-- the node where it stops is that of the edge
pub stopped : (m : VersionsMeaning) (next : Option Link) (at : Link) (edge : ℕ) → next ≡ Some at → IfSome next (λ at. Some edge ≡ Some (pool.row m.rows at).item) → edge ≡ (pool.row m.rows at).item
stopped m next at edge is stops = let same : Some edge ≡ Some (pool.row m.rows at).item = subst (λ (o : Option Link). IfSome o (λ at. Some edge ≡ Some (pool.row m.rows at).item)) is stops in cc

-- an edge of the list that ends next is found
pub never_missing : (t : Table) → IsTable t → (m : VersionsMeaning) (edge : ℕ) (path : List (Link × Turn)) (way : Way) → edge < length t.ends → is_chain_at t (hi_of t edge - 1) m.list ≡ true → is_in edge m.list ≡ true → IsWay (is_passed t (End edge)) (Some edge) m path way → way.next ≡ None → ⊥
never_missing t ok m edge path way fits chain listed is_way none =
    let test = is_passed t (End edge) in
    let g = way_end test (Some edge) m path way is_way none in
    is_way.apart edge refl (above_there (present_nodes m) m.list path way.beside.below way.beside.above g ∙ found_by_end t ok edge fits m.list chain listed (length g.front) (way_search test (Some edge) m path way is_way none))

-- the place of a new edge, where it begins below the edge just above the end
pub place_of_way : (t : Table) → IsTable t → (e : ℕ) → e < length t.ends → (m : VersionsMeaning) (path : List (Link × Turn)) (way : Way) → is_chain_at t (lo_of t e) m.list ≡ true → IsWay (is_passed t (Begin e)) None m path way → way.next ≡ None
    → ((next : ℕ) → way.beside.above ≡ Some next → begins_below (edge t next) (edge t e) ≡ true) → IsPlaceFor t e m path way.beside
place_of_way t ok e fits m path way chain is_way none below =
    let test = is_passed t (Begin e) in
    let g = way_end test None m path way is_way none in
    let place = place_at (present_nodes m) m.list path way.beside.below way.beside.above g t ok e fits chain (way_search test None m path way is_way none) below in
    record { end = g; behind = place.0; ahead = place.1 }
