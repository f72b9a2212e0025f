-- A sweep on its way: what holds before each corner.
use Rattle.std.proofs.Common.{◌≡◌, ℕ, ◌+◌, ◌<◌, List, [], ◌∷◌, ◌++◌, length, refl, sym, ◌∙◌, ap, subst, arith, Option}
use Rattle.std.specs.Prelude.{IfSome}
use Rattle.loc_spec_plane.specs.{Points.is_above, Places.alive_at}
use Rattle.loc_spec_plane.specs.Tables.{Table, IsTable, NoConflict, corner, edge}
use Rattle.loc_laws_order.specs.Laws.{last_that}
use Rattle.loc_status.specs.Meaning.{StatusMeaning, IsFresh, Seals}
use Rattle.loc_sweep.specs.Course.{IsBefore, Leaves, Comes, AreNextBelow, IsNoted, HasSealed}
use Rattle.loc_sweep.specs.{Line.IsBegun, Line.IsChainOf, Swept.IsSwept}
use Rattle.loc_edges.specs.Floors.{AreFloors}
use Rattle.loc_sweep.proofs.Whole.{are_floors, before_first, before_next, is_swept, no_conflict, noted_more, noted_none, sealed_more}

-- before corner c: the status, the lists at the corners so far, and what was noted of them
pub record IsUnderWay (t : Table) (c : ℕ) (m : StatusMeaning) (of_corner of_edge : List (Option ℕ)) : Type 0 where
  pub lists : List (List ℕ)
  pub before : IsBefore t c m
  pub sealed : HasSealed m lists
  pub noted : IsNoted t c lists of_corner of_edge

-- at the start
pub under_way : (t : Table) (m : StatusMeaning) (of_edge : List (Option ℕ)) → IsFresh m → length of_edge ≡ length t.ends → IsUnderWay t 0 m [] of_edge
under_way t m of_edge fresh as_many = let first = before_first t m fresh in record { lists = []; before = first.0; sealed = first.1; noted = noted_none t of_edge as_many }

-- from one corner to the next
pub goes_on : (t : Table) → IsTable t → (c : ℕ) → c < length t.corners → (old left here new : StatusMeaning) (of_corner of_corner' of_edge of_edge' : List (Option ℕ)) → IsUnderWay t c old of_corner of_edge
    → Leaves t c old left → Comes t c left here → of_corner' ≡ of_corner ++ last_that (λ e. is_above (edge t e) (corner t c)) here.list ∷ [] → AreNextBelow t c here.list of_edge of_edge' → Seals here new → IsUnderWay t (c + 1) new of_corner' of_edge'
goes_on t ok c within old left here new of_corner of_corner' of_edge of_edge' way leaves comes floor below seals =
    let floor_is = last_that (λ e. is_above (edge t e) (corner t c)) here.list in
    let balance : here.inserted ≡ here.removed + length here.list = omega (arith, way.before.balance, leaves.balance, leaves.inserted, comes.balance, comes.removed) in
    record {
      lists = way.lists ++ here.list ∷ [];
      before = before_next t ok c within new (subst (λ es. IsChainOf t c (alive_at t (corner t c)) es) (sym seals.list) comes.list) (subst (λ k. IsBegun t (c + 1) k) (sym seals.inserted) comes.begun)
          (seals.inserted ∙ (balance ∙ (sym (ap (λ k. k + length here.list) seals.removed) ∙ ap (λ es. new.removed + length es) (sym seals.list)))) (omega (arith, seals.past_greatest, comes.in_range));
      sealed = sealed_more here new way.lists seals (comes.kept.sealed ∙ (leaves.kept.sealed ∙ way.sealed.count)) (subst (λ o. IfSome o (λ lists. lists ≡ way.lists)) (sym (comes.kept.sealed_lists ∙ leaves.kept.sealed_lists)) way.sealed.told);
      noted = subst (λ xs. IsNoted t (c + 1) (way.lists ++ here.list ∷ []) xs of_edge') (sym floor) (noted_more t c way.lists of_corner of_edge of_edge' here.list way.noted floor_is comes.list refl below);
    }

-- at the end
pub all_apart : (t : Table) → IsTable t → (c : ℕ) (m : StatusMeaning) (of_corner of_edge : List (Option ℕ)) → c ≡ length t.corners → IsUnderWay t c m of_corner of_edge → NoConflict t
all_apart t ok c m of_corner of_edge end way = no_conflict t ok way.lists of_corner of_edge (subst (λ k. IsNoted t k way.lists of_corner of_edge) end way.noted)

-- what the status means then
pub all_swept : (t : Table) → IsTable t → (c : ℕ) (m : StatusMeaning) (of_corner of_edge : List (Option ℕ)) → c ≡ length t.corners → IsUnderWay t c m of_corner of_edge → IsSwept t m
all_swept t ok c m of_corner of_edge end way = is_swept t ok way.lists of_corner of_edge (subst (λ k. IsNoted t k way.lists of_corner of_edge) end way.noted) m (subst (λ k. IsBefore t k m) end way.before) way.sealed

-- and what was noted
pub all_floors : (t : Table) → IsTable t → (c : ℕ) (m : StatusMeaning) (of_corner of_edge : List (Option ℕ)) → c ≡ length t.corners → IsUnderWay t c m of_corner of_edge → AreFloors t (record { of_corner = of_corner; of_edge = of_edge })
all_floors t ok c m of_corner of_edge end way = are_floors t ok way.lists of_corner of_edge (subst (λ k. IsNoted t k way.lists of_corner of_edge) end way.noted)
