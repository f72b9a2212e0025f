-- The least corner of each cycle, as one half-edge after another is looked at.
use Rattle.std.proofs.Common.{◌≡◌, ◌≢◌, ℕ, ◌+◌, ◌<◌, ◌≤◌, List, length, get_or, set, min, sym, ◌∙◌, ap, ◌⊎◌, inl, inr, arith, get_or-set_same, get_or-set_other, length-set}
use Rattle.std.proofs.lemmas.Bool.{cases_eq, cases_lt}
use Rattle.loc_spec_plane.specs.Tables.{Table, IsTable}
use Rattle.loc_spec_plane.specs.{HalfEdges.half_edge_count, HalfEdges.cycle, HalfEdges.target, Faces.least_corner}
use Rattle.loc_half.specs.HalfEdgeLists.{HalfEdgeLists, AreHalfEdges, leader_in, next_in}
use Rattle.loc_half.proofs.Halves.{target-fits}
use Rattle.loc_faces.specs.Cycles.{AreLeast}
use Rattle.loc_laws_rays.proofs.Picked.{least-le, le-least}
use Rattle.loc_faces.proofs.Leaders.{leads_within, on_same, same_on}

-- of the half-edges below i, no note is above where one arrives, and each note is where one arrives, or the number of corners still
pub record IsLeastSoFar (t : Table) (half : HalfEdgeLists) (least : List ℕ) (i : ℕ) : Type 0 where
  pub as_many : length least ≡ half_edge_count t
  pub under : (g : ℕ) → g < i → get_or least (leader_in half g) 0 ≤ target t g
  pub met : (l : ℕ) → l < half_edge_count t → (get_or least l 0 ≡ length t.corners) ⊎ ((g : ℕ) × (g < i) × (leader_in half g ≡ l) × (target t g ≡ get_or least l 0))

module _ (t : Table) (ok : IsTable t) (half : HalfEdgeLists) (are : AreHalfEdges t half) where
  -- one half-edge more
  pub least_more : (least : List ℕ) (i v : ℕ) → i < half_edge_count t → v ≡ min (get_or least (leader_in half i) 0) (target t i) → IsLeastSoFar t half least i → IsLeastSoFar t half (set least (leader_in half i) v) (i + 1)
  least_more least i v lt is so_far =
      let here : leader_in half i < length least = (let at = leads_within t ok half are i lt in omega (arith, at, so_far.as_many)) in
      let new : get_or (set least (leader_in half i) v) (leader_in half i) 0 ≡ v = get_or-set_same least (leader_in half i) v 0 here in
      record {
        as_many = length-set least (leader_in half i) v ∙ so_far.as_many;
        under = λ g less. elim (cases_eq g i) [
          | inl same ↦ (let e : get_or (set least (leader_in half i) v) (leader_in half g) 0 ≡ v = ap (λ k. get_or (set least (leader_in half i) v) (leader_in half k) 0) same ∙ new in
              let at : target t g ≡ target t i = ap (target t) same in omega (arith, e, at, is))
          | inr other ↦ (let ne : g ≢ i = other in
              let old = so_far.under g (omega (arith, ne, less)) in
              elim (cases_eq (leader_in half g) (leader_in half i)) [
                | inl one ↦ (let e : get_or (set least (leader_in half i) v) (leader_in half g) 0 ≡ v = ap (λ k. get_or (set least (leader_in half i) v) k 0) one ∙ new in
                    let was : get_or least (leader_in half g) 0 ≡ get_or least (leader_in half i) 0 = ap (λ k. get_or least k 0) one in omega (arith, e, was, old, is))
                | inr two ↦ (let e : get_or (set least (leader_in half i) v) (leader_in half g) 0 ≡ get_or least (leader_in half g) 0 = get_or-set_other least (leader_in half i) (leader_in half g) v 0 two in omega (arith, e, old))
              ])
        ];
        met = λ l below. elim (cases_eq l (leader_in half i)) [
          | inl one ↦ (let e : get_or (set least (leader_in half i) v) l 0 ≡ v = ap (λ k. get_or (set least (leader_in half i) v) k 0) one ∙ new in
              elim (cases_lt (target t i) (get_or least (leader_in half i) 0)) [
                | inl less ↦ inr (i, omega arith, sym one, (let v_is : v ≡ target t i = omega (arith, is, less) in sym (e ∙ v_is)))
                | inr more ↦ (let v_is : v ≡ get_or least (leader_in half i) 0 = omega (arith, is, more) in
                    elim (so_far.met (leader_in half i) (leads_within t ok half are i lt)) [
                      | inl bare ↦ inl (e ∙ (v_is ∙ bare))
                      | inr found ↦ (let early = found.1 in inr (found.0, omega (arith, early), found.2 ∙ sym one, found.3 ∙ sym (e ∙ v_is)))
                    ])
              ])
          | inr two ↦ (let e : get_or (set least (leader_in half i) v) l 0 ≡ get_or least l 0 = get_or-set_other least (leader_in half i) l v 0 two in
              elim (so_far.met l below) [
                | inl bare ↦ inl (e ∙ bare)
                | inr found ↦ (let early = found.1 in inr (found.0, omega (arith, early), found.2, found.3 ∙ sym e))
              ])
        ];
      }

  -- all looked at
  pub least_all : (least : List ℕ) (i : ℕ) → half_edge_count t ≤ i → i ≤ half_edge_count t → IsLeastSoFar t half least i → AreLeast t half least
  least_all least i past few so_far = record { as_many = so_far.as_many; are = λ h lt. (let low = at_most h lt in let high = at_least h lt in omega (arith, low, high)) }
    where
      at_most : (h : ℕ) → h < half_edge_count t → get_or least (leader_in half h) 0 ≤ least_corner t (next_in half) h
      at_most h lt = le-least (target t) (get_or least (leader_in half h) 0) (target t h) (cycle t (next_in half) h) (so_far.under h (omega (arith, lt, past)))
          (λ g here. (let on = same_on t ok half are g h lt here in
          let e : get_or least (leader_in half g) 0 ≡ get_or least (leader_in half h) 0 = ap (λ l. get_or least l 0) on.1 in
          omega (arith, so_far.under g (omega (arith, on.0, past)), e)))

      at_least : (h : ℕ) → h < half_edge_count t → least_corner t (next_in half) h ≤ get_or least (leader_in half h) 0
      at_least h lt = elim (so_far.met (leader_in half h) (leads_within t ok half are h lt)) [
        | inl bare ↦ (let under = so_far.under h (omega (arith, lt, past)) in let fits = target-fits t ok h lt in absurd (omega (arith, bare, under, fits)))
        | inr found ↦ (let early = found.1 in
            let le = least-le (target t) (target t h) found.0 (cycle t (next_in half) h) (on_same t ok half are found.0 h (omega (arith, early, few)) lt found.2) in
            omega (arith, le, found.3))
      ]
