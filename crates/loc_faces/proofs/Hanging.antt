-- Which cycles hang, as one half-edge after another is looked at.
use Rattle.std.proofs.Common.{◌≡◌, ◌≢◌, ℕ, ◌+◌, ◌<◌, ◌≤◌, Bool, true, false, ◌&&◌, List, length, get_or, set, sym, ◌∙◌, ap, subst, inl, inr, arith, get_or-set_same, get_or-set_other, length-set}
use Rattle.std.specs.Prelude.{◌==◌, ◌||◌, not}
use Rattle.std.proofs.lemmas.Bool.{cases_eq, both_ways, eq-eqb, ne_eqb}
use Rattle.loc_spec_plane.specs.{Tables.Table, Tables.IsTable, Places.lower_of}
use Rattle.loc_spec_plane.specs.HalfEdges.{half_edge_count, cycle, edge_of, leader, target}
use Rattle.loc_spec_plane.specs.Faces.{hangs, leads_face, least_corner}
use Rattle.loc_laws_order.proofs.Booleans.{same-from_both}
use Rattle.loc_half.specs.HalfEdgeLists.{HalfEdgeLists, AreHalfEdges, leader_in, next_in}
use Rattle.loc_faces.specs.{Boundaries.leads_hanging, Cycles.AreHanging, Cycles.AreLeast, Cycles.passes_low}
use Rattle.loc_laws_rays.proofs.{Covering.any-found, Picked.member_any}
use Rattle.loc_faces.proofs.Leaders.{leads_within, on_same, same_on}

-- of the half-edges below i, each that passes so is noted, and where it is noted there is one
pub record IsHangingSoFar (t : Table) (half : HalfEdgeLists) (least : List ℕ) (hanging : List Bool) (i : ℕ) : Type 0 where
  pub as_many : length hanging ≡ half_edge_count t
  pub noted : (g : ℕ) → g < i → passes_low t half least g ≡ true → get_or hanging (leader_in half g) false ≡ true
  pub met : (l : ℕ) → l < half_edge_count t → get_or hanging l false ≡ true → (g : ℕ) × (g < i) × (leader_in half g ≡ l) × (passes_low t half least g ≡ true)

module _ (t : Table) (ok : IsTable t) (half : HalfEdgeLists) (are : AreHalfEdges t half) where
  -- one that passes is noted
  pub hanging_noted : (least : List ℕ) (hanging : List Bool) (i : ℕ) → i < half_edge_count t → passes_low t half least i ≡ true → IsHangingSoFar t half least hanging i → IsHangingSoFar t half least (set hanging (leader_in half i) true) (i + 1)
  hanging_noted least hanging i lt pass so_far =
      let here : leader_in half i < length hanging = (let at = leads_within t ok half are i lt in omega (arith, at, so_far.as_many)) in
      record {
        as_many = length-set hanging (leader_in half i) true ∙ so_far.as_many;
        noted = λ g less passed. elim (cases_eq (leader_in half g) (leader_in half i)) [
          | inl one ↦ ap (λ k. get_or (set hanging (leader_in half i) true) k false) one ∙ get_or-set_same hanging (leader_in half i) true false here
          | inr two ↦ get_or-set_other hanging (leader_in half i) (leader_in half g) true false two ∙ so_far.noted g (elim (cases_eq g i) [
            | inl same ↦ absurd (two (ap (leader_in half) same))
            | inr other ↦ (let ne : g ≢ i = other in omega (arith, ne, less))
          ]) passed
        ];
        met = λ l below note. elim (cases_eq l (leader_in half i)) [
          | inl one ↦ (i, omega arith, sym one, pass)
          | inr two ↦ (let found = so_far.met l below (sym (get_or-set_other hanging (leader_in half i) l true false two) ∙ note) in let early = found.1 in (found.0, omega (arith, early), found.2, found.3))
        ];
      }

  -- one that does not is passed by
  pub hanging_passed : (least : List ℕ) (hanging : List Bool) (i : ℕ) → passes_low t half least i ≡ false → IsHangingSoFar t half least hanging i → IsHangingSoFar t half least hanging (i + 1)
  hanging_passed least hanging i fails so_far = record {
    as_many = so_far.as_many;
    noted = λ g less passed. elim (cases_eq g i) [
      | inl same ↦ absurd (both_ways (passes_low t half least i) fails (subst (λ k. passes_low t half least k ≡ true) same passed))
      | inr other ↦ (let ne : g ≢ i = other in so_far.noted g (omega (arith, ne, less)) passed)
    ];
    met = λ l below note. (let found = so_far.met l below note in let early = found.1 in (found.0, omega (arith, early), found.2, found.3));
  }

  -- all looked at: by the least corners, a cycle is noted where it hangs
  pub hanging_all : (least : List ℕ) (hanging : List Bool) (i : ℕ) → AreLeast t half least → half_edge_count t ≤ i → i ≤ half_edge_count t → IsHangingSoFar t half least hanging i → AreHanging t half hanging
  hanging_all least hanging i lows past few so_far = record {
    as_many = so_far.as_many;
    are = λ h lt. same-from_both (get_or hanging (leader_in half h) false) (hangs t (next_in half) h) (forth h lt) (back h lt);
  }
    where
      -- the test of a half-edge on the cycle, by the least corner of the cycle
      low_at : (g h : ℕ) → h < half_edge_count t → leader_in half g ≡ leader_in half h → get_or least (leader_in half g) 0 ≡ least_corner t (next_in half) h
      low_at g h lt same = ap (λ l. get_or least l 0) same ∙ lows.are h lt

      forth : (h : ℕ) → h < half_edge_count t → get_or hanging (leader_in half h) false ≡ true → hangs t (next_in half) h ≡ true
      forth h lt note =
          let found = so_far.met (leader_in half h) (leads_within t ok half are h lt) note in
          any-found (λ g. (target t g == least_corner t (next_in half) h) && ((edge_of g == edge_of (next_in half g)) || lower_of t (edge_of g) (edge_of (next_in half g)))) (cycle t (next_in half) h) found.0
          (on_same t ok half are found.0 h (omega (arith, found.1, few)) lt found.2)
          (subst (λ c. ((target t found.0 == c) && ((edge_of found.0 == edge_of (next_in half found.0)) || lower_of t (edge_of found.0) (edge_of (next_in half found.0)))) ≡ true) (low_at found.0 h lt found.2) found.3)

      back : (h : ℕ) → h < half_edge_count t → hangs t (next_in half) h ≡ true → get_or hanging (leader_in half h) false ≡ true
      back h lt hung =
          let found = member_any (λ g. (target t g == least_corner t (next_in half) h) && ((edge_of g == edge_of (next_in half g)) || lower_of t (edge_of g) (edge_of (next_in half g)))) (cycle t (next_in half) h) hung in
          let on = same_on t ok half are found.0 h lt found.1 in
          subst (λ l. get_or hanging l false ≡ true) on.1 (so_far.noted found.0 (omega (arith, on.0, past))
          (subst (λ c. ((target t found.0 == c) && ((edge_of found.0 == edge_of (next_in half found.0)) || lower_of t (edge_of found.0) (edge_of (next_in half found.0)))) ≡ true) (sym (low_at found.0 h lt on.1)) found.2))

-- whether a half-edge leads a cycle that hangs, or an outer one, as it is noted
module _ (t : Table) (half : HalfEdgeLists) (are : AreHalfEdges t half) (hanging : List Bool) (hung : AreHanging t half hanging) (h : ℕ) (lt : h < half_edge_count t) where
  hangs_so : leader_in half h ≡ h → get_or hanging h false ≡ hangs t (next_in half) h
  hangs_so is = ap (λ l. get_or hanging l false) (sym is) ∙ hung.are h lt

  leads_so : leader_in half h ≡ h → (leader t (next_in half) h == h) ≡ true
  leads_so is = eq-eqb (leader t (next_in half) h) h (sym (are.leaders h lt) ∙ is)

  leads_not : (leader_in half h ≢ h) → (leader t (next_in half) h == h) ≡ false
  leads_not other = ne_eqb (leader t (next_in half) h) h (λ is. other (are.leaders h lt ∙ is))

  noted_not : (leader_in half h ≢ h) → (leader_in half h == h) ≡ false
  noted_not other = ne_eqb (leader_in half h) h other

  pub hanging_leads : leader_in half h ≡ h → get_or hanging h false ≡ leads_hanging t (next_in half) h
  hanging_leads is = hangs_so is ∙ sym (ap (λ b. b && hangs t (next_in half) h) (leads_so is))

  pub hanging_other : (leader_in half h ≢ h) → (leader_in half h == h) ≡ leads_hanging t (next_in half) h
  hanging_other other = noted_not other ∙ sym (ap (λ b. b && hangs t (next_in half) h) (leads_not other))

  pub outer_leads : leader_in half h ≡ h → not (get_or hanging h false) ≡ leads_face t (next_in half) h
  outer_leads is = ap not (hangs_so is) ∙ sym (ap (λ b. b && not (hangs t (next_in half) h)) (leads_so is))

  pub outer_other : (leader_in half h ≢ h) → (leader_in half h == h) ≡ leads_face t (next_in half) h
  outer_other other = noted_not other ∙ sym (ap (λ b. b && not (hangs t (next_in half) h)) (leads_not other))
