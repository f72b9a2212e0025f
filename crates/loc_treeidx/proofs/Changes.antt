-- What an insertion and a removal do to the list, and that there is room for a new edge.
use Rattle.std.proofs.Common.{◌≡◌, ℕ, ◌<◌, true, false, List, [], ◌∷◌, length, map, get_or, sym, ap, subst, inl, inr, arith, Some}
use Rattle.std.proofs.{Math.Dec.eqb, lemmas.List.Elements.All-get_or}
use Rattle.std.specs.Prelude.{◌==◌}
use Rattle.std.specs.List.{AllByRecursion, list_any, IsDistinct}
use Rattle.std.proofs.lemmas.Bool.{both_ways, eq-eqb, eqb-true, ne_eqb, or_cases, or_parts}
use Rattle.std.proofs.lemmas.Map.Keys.{IsDistinct-cons, IsDistinct-from_apart}
use Rattle.std.proofs.lemmas.Map.Steps.{length-le_from_distinct_below}
use Rattle.std.proofs.lemmas.Option.{slice_get-get_or, slice_get_within, get_or_from_slice_get}
use Rattle.loc_pool.specs.{declared.Link.Link, declared.Turn.Turn}
use Rattle.loc_persist.specs.Meaning.{VersionsMeaning, Inserts, Removes}
use Rattle.loc_spec_plane.specs.{Lists.is_in, Points.Point, Points.same_edge, Tables.Table, Tables.edge}
use Rattle.loc_spec_plane.specs.Places.{is_chain}
use Rattle.loc_laws_order.proofs.{ChainLaws.chain_differ, ListLaws.get-map, Tests.same_edge_decides}
use Rattle.loc_status.proofs.{Ends.member_place, Standing.chain_in_range}
use Rattle.loc_status.specs.{declared.status.Beside.Beside, Lists.IsBeside}
use Rattle.loc_status.specs.Meaning as status
use Rattle.loc_place.proofs.ListCounts.{is_in_member}
use Rattle.loc_treeidx.specs.{Gaps.IsPlaceFor, Gaps.IsNode, Meaning.meaning_of}
use Rattle.loc_treeidx.proofs.Beside.{beside_seam}

-- what stands beside the place of an edge stands beside it then
pub stands_beside : (t : Table) (e : ℕ) (old new : VersionsMeaning) (path : List (Link × Turn)) (beside : Beside) → IsPlaceFor t e old path beside → Inserts path e old new → IsBeside e new.list beside
stands_beside t e old new path beside place inserts =
    let end = place.end in
    subst (λ es. IsBeside e es beside) (sym (inserts.list end.front end.back end.leads)) (beside_seam end.front end.back e beside end.below end.above)

-- a removal of the node of an edge
pub removes_edge : (e : ℕ) (old new : VersionsMeaning) (path : List (Link × Turn)) (at : Link) → IsNode e old path at → Removes path at old new → status.Removes e (meaning_of old) (meaning_of new)
removes_edge e old new path at node removes = record {
  list = record { front = node.front; back = node.back; old_is = sym node.whole; new_is = removes.list node.front e node.back node.leads };
  kept = record { sealed_lists = ap (λ lists. Some lists) removes.sealed_lists; sealed = ap length removes.roots };
  inserted = removes.inserted;
  removed = removes.removed;
  past_greatest = removes.past_greatest;
  is_changed = removes.is_changed;
}

-- no number of a list is one that is not in it
apart_from : (e : ℕ) (es : List ℕ) → is_in e es ≡ false → AllByRecursion (λ a. eqb e a ≡ false) es
apart_from e [] out = tt
apart_from e (a ∷ es) out =
    let parts = or_parts (a == e) (is_in e es) out in
    (ne_eqb e a (λ same. both_ways (a == e) parts.0 (eq-eqb a e (sym same))), apart_from e es parts.1)

-- a chain in which an edge is missing has fewer edges than the table
pub chain_has_room : (t : Table) (p : Point) (es : List ℕ) (e : ℕ) → is_chain p (map (edge t) es) ≡ true → is_in e es ≡ false → e < length t.ends → length es < length t.ends
chain_has_room t p es e chain out fits =
    omega (arith, length-le_from_distinct_below (e ∷ es) (length t.ends) (IsDistinct-cons eqb e es (apart_from e es out) once) below)
  where
    once : IsDistinct eqb es
    once = IsDistinct-from_apart eqb es (λ i j d less inside. (let a = get_or es i d in
        let b = get_or es j d in
        let at_i = get-map (edge t) es i a (slice_get-get_or es i d (omega (arith, less, inside))) in
        let at_j = get-map (edge t) es j b (slice_get-get_or es j d inside) in
        ne_eqb a b (λ same. both_ways (same_edge (edge t a) (edge t b)) (chain_differ (map (edge t) es) p chain i j (edge t a) (edge t b) less at_i at_j) ((same_edge_decides (edge t a) (edge t b)).1 (ap (edge t) same)))))

    below : (q : ℕ) → list_any (eqb q) (e ∷ es) ≡ true → q < length t.ends
    below q there = elim (or_cases (eqb q e) (list_any (eqb q) es) there) [
      | inl same ↦ subst (λ k. k < length t.ends) (sym (eqb-true q e same)) fits
      | inr listed ↦ (let at = member_place es q (is_in_member q es listed) in
          subst (λ k. k < length t.ends) (get_or_from_slice_get es at.0 q 0 at.1) (All-get_or (λ a. a < length t.ends) es at.0 0 (slice_get_within es at.0 q at.1) (chain_in_range t p es chain)))
    ]
