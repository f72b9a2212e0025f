-- Where no two edges conflict, neighbours on the sweep line are apart.
use Rattle.std.proofs.Common.{◌≡◌, ℕ, ◌-◌, ◌<◌, true, false, not, List, length}
use Rattle.std.specs.Prelude.{Option, Some, None}
use Rattle.std.proofs.lemmas.Bool.{both_ways, not-true}
use Rattle.loc_spec_plane.specs.{Points.conflict, Lists.is_in}
use Rattle.loc_spec_plane.specs.Tables.{Table, IsTable, NoConflict, edge, hi_of, lo_of}
use Rattle.loc_laws_order.proofs.Tests.{touch-conflict}
use Rattle.loc_status.specs.Lists.{is_chain_at, IsBeside, IsInserted, IsRemoved}
use Rattle.loc_status.specs.{declared.status.Beside.Beside, Meaning.IsCause, declared.status.InsertFault.InsertFault}
use Rattle.loc_status.specs.declared.status.InsertFault.TheVariants.{Hits}
use Rattle.loc_sweep.specs.Line.{AreApart, IsInRange, IsWith, IsWithout}
use Rattle.loc_sweep.proofs.Chains.{inserted, inserted_neighbours, removed, removed_neighbours}
use Rattle.loc_sweep.proofs.EdgesComing.{hit_touches}

are_apart : (t : Table) → NoConflict t → (a b : Option ℕ) → IsInRange t a → IsInRange t b → AreApart t a b
are_apart t apart None b in_a in_b = tt
are_apart t apart (Some a) None in_a in_b = tt
are_apart t apart (Some a) (Some b) in_a in_b = apart a b in_a in_b

module _ (t : Table) (apart : NoConflict t) (e : ℕ) (old new : List ℕ) (beside : Beside) where
  -- an edge that goes leaves a chain
  pub gone : is_chain_at t (hi_of t e - 1) old ≡ true → IsBeside e old beside → IsRemoved e old new → (is_chain_at t (hi_of t e - 1) new ≡ true) × IsWithout e old new
  gone chain stands goes =
      let near = removed_neighbours t (hi_of t e - 1) e old beside chain stands in
      removed t (hi_of t e - 1) e old new beside chain stands goes (are_apart t apart beside.below beside.above near.0 near.1)

  -- an edge that comes leaves a chain
  pub here : IsTable t → e < length t.ends → is_chain_at t (lo_of t e) old ≡ true → is_in e old ≡ false → IsInserted t e old new → IsBeside e new beside → (is_chain_at t (lo_of t e) new ≡ true) × IsWith e old new
  here ok fits chain is_new comes stands =
      let near = inserted_neighbours t e old new beside fits chain comes stands in
      inserted t e old new beside ok fits chain is_new comes stands (are_apart t apart beside.below (Some e) near.0 fits) (are_apart t apart (Some e) beside.above fits near.1)

-- no edge hits another
pub none_hit : (r t : Table) → r ≡ t → IsTable t → NoConflict t → (e : ℕ) → e < length t.ends → (es : List ℕ) → is_chain_at t (lo_of t e) es ≡ true → not (is_in e es) ≡ true
    → (fault : InsertFault) (hit : ℕ) → fault ≡ Hits hit → IsCause r e es fault → ⊥
none_hit r t same ok apart e fits es chain is_new fault hit is cause =
    let h = hit_touches r t same ok e fits es chain is_new fault hit is cause in
    both_ways (conflict (edge t hit) (edge t e)) (not-true _ (apart hit e h.0 fits)) (touch-conflict (edge t hit) (edge t e) h.1)
