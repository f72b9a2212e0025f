-- The map of no edge.
use Rattle.std.proofs.Common.{◌≡◌, ℕ, Bool, true, List, [], ◌∷◌, refl, sym, subst, arith}
use Rattle.std.specs.Prelude.{Option}
use Rattle.std.proofs.lemmas.Bool.{true≢false}
use Rattle.loc_spec_plane.specs.{declared.Trap.Trap, Tables.Table, Tables.IsTable}
use Rattle.loc_laws_traps.specs.Sets.{no_edge}
use Rattle.loc_laws_traps.proofs.{Corners.empty_set, Cells.end_of, Maps.start_map_law}
use Rattle.loc_traps.specs.Meaning.{MapMeaning, IsMapOf, no_bounds, row_of, live_of}

abbrev first_map : MapMeaning
first_map = record { rows = no_bounds ∷ []; is_live = true ∷ []; added = []; lowest = []; highest = [] }

first_is_map : (t : Table) → IsTable t → IsMapOf t first_map
first_is_map t ok = record {
  calm = empty_set t ok;
  flags = refl;
  map = start_map_law t ok (row_of (no_bounds ∷ [])) (live_of (true ∷ [])) refl refl;
  lowest = λ c h. absurd (let r = end_of t no_edge (empty_set t ok) c h in true≢false (sym r.1));
  highest = λ c h. absurd (let r = end_of t no_edge (empty_set t ok) c h in true≢false (sym r.1));
  few = omega arith;
}

pub start_is_map : (rows : List Trap) (is_live : List Bool) (added : List ℕ) (lowest highest : List (Option ℕ)) → rows ≡ no_bounds ∷ [] → is_live ≡ true ∷ [] → added ≡ [] → lowest ≡ [] → highest ≡ [] → (t : Table) → IsTable t → IsMapOf t (record { rows = rows; is_live = is_live; added = added; lowest = lowest; highest = highest })
start_is_map rows is_live added lowest highest rows_are live_are added_are lowest_are highest_are t ok =
    subst (λ (xs : List Trap). IsMapOf t (record { rows = xs; is_live = is_live; added = added; lowest = lowest; highest = highest })) (sym rows_are)
    (subst (λ (xs : List Bool). IsMapOf t (record { rows = no_bounds ∷ []; is_live = xs; added = added; lowest = lowest; highest = highest })) (sym live_are)
    (subst (λ (xs : List ℕ). IsMapOf t (record { rows = no_bounds ∷ []; is_live = true ∷ []; added = xs; lowest = lowest; highest = highest })) (sym added_are)
    (subst (λ (xs : List (Option ℕ)). IsMapOf t (record { rows = no_bounds ∷ []; is_live = true ∷ []; added = []; lowest = xs; highest = highest })) (sym lowest_are)
    (subst (λ (xs : List (Option ℕ)). IsMapOf t (record { rows = no_bounds ∷ []; is_live = true ∷ []; added = []; lowest = []; highest = xs })) (sym highest_are) (first_is_map t ok)))))
