-- Leaders as they are noted: in range, and one for each cycle.
use Rattle.std.proofs.Common.{◌≡◌, ℕ, ◌<◌, true, sym, ◌∙◌, ap, arith}
use Rattle.loc_spec_plane.specs.{Lists.is_in, Tables.Table, Tables.IsTable}
use Rattle.loc_spec_plane.specs.HalfEdges.{half_edge_count, cycle, leader}
use Rattle.loc_half.specs.HalfEdgeLists.{HalfEdgeLists, AreHalfEdges, leader_in, next_in}
use Rattle.loc_half.proofs.Orbits.{leader_within, same_cycle, in_cycle, leads_itself, cycle_within}

module _ (t : Table) (ok : IsTable t) (half : HalfEdgeLists) (are : AreHalfEdges t half) where
  -- the leader of a half-edge, as it is noted
  pub leads : (h : ℕ) → h < half_edge_count t → leader_in half h ≡ leader t (next_in half) h
  leads h lt = are.leaders h lt

  pub leads_within : (h : ℕ) → h < half_edge_count t → leader_in half h < half_edge_count t
  leads_within h lt = let at = leader_within t ok half are h lt in let is = leads h lt in omega (arith, at, is)

  pub leads_leads : (h : ℕ) → h < half_edge_count t → leader_in half (leader_in half h) ≡ leader_in half h
  leads_leads h lt = leads (leader_in half h) (leads_within h lt) ∙ (ap (leader t (next_in half)) (leads h lt) ∙ (leads_itself t ok half are h lt ∙ sym (leads h lt)))

  pub on_same : (g h : ℕ) → g < half_edge_count t → h < half_edge_count t → leader_in half g ≡ leader_in half h → is_in g (cycle t (next_in half) h) ≡ true
  on_same g h lt_g lt_h same = in_cycle t ok half are g h lt_g lt_h (sym (leads g lt_g) ∙ (same ∙ leads h lt_h))

  pub same_on : (g h : ℕ) → h < half_edge_count t → is_in g (cycle t (next_in half) h) ≡ true → (g < half_edge_count t) × (leader_in half g ≡ leader_in half h)
  same_on g h lt here = let within = cycle_within t ok half are g h lt here in (within, leads g within ∙ (same_cycle t ok half are g h lt here ∙ sym (leads h lt)))
