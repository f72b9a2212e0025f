-- No cycle has one half-edge or two: its half-edges leave different corners, and both half-edges of one edge are not on one cycle, since exactly one of them has its left covered.
use Rattle.std.proofs.Common.{◌≡◌, ℕ, zero, suc, ◌+◌, ◌*◌, ◌<◌, ◌≤◌, true, length, refl, sym, ◌∙◌, ap, ap₂, inl, inr, arith}
use Rattle.std.proofs.lemmas.Bool.{cases_eq, true≢false}
use Rattle.loc_spec_plane.specs.{Lists.exactly_one, Points.same_edge}
use Rattle.loc_spec_plane.specs.Tables.{Table, IsTable, AllEnds, AllEven, NoConflict, corner, edge, hi_of, lo_of}
use Rattle.loc_spec_plane.specs.HalfEdges.{cycle, edge_of, half_edge_count, origin, target}
use Rattle.loc_laws_order.proofs.{Sides.same_point_refl, TableOrder.different}
use Rattle.loc_laws_rays.proofs.Parity.{exactly_one_same}
use Rattle.loc_half.specs.HalfEdgeLists.{HalfEdgeLists, AreHalfEdges, next_in}
use Rattle.loc_half.proofs.Halves.{either_way, edge-fits, origin-down, origin-up, target-down, target-up}
use Rattle.loc_half.proofs.Orbits.{cycle_is, leaves_there, next_within, placed}
use Rattle.loc_half.proofs.Trails.{IsOrbit, trail}
use Rattle.loc_laws_dissolve.specs.Laws.{left_covered}
use Rattle.loc_laws_dissolve.proofs.Left.{same_behind}

trail_length : (next : ℕ → ℕ) (s h : ℕ) → length (trail next s h) ≡ s
trail_length next zero h = refl
trail_length next (suc s) h = omega (arith, trail_length next s (next h))

-- the ends of a half-edge
up_ends : (t : Table) (h : ℕ) → h ≡ 2 * edge_of h → (origin t h ≡ lo_of t (edge_of h)) × (target t h ≡ hi_of t (edge_of h))
up_ends t h is = (ap (origin t) is ∙ origin-up t (edge_of h), ap (target t) is ∙ target-up t (edge_of h))

down_ends : (t : Table) (h : ℕ) → h ≡ 2 * edge_of h + 1 → (origin t h ≡ hi_of t (edge_of h)) × (target t h ≡ lo_of t (edge_of h))
down_ends t h is = (ap (origin t) is ∙ origin-down t (edge_of h), ap (target t) is ∙ target-down t (edge_of h))

-- an edge by its ends
same_ends : (t : Table) → IsTable t → (d e : ℕ) → d < length t.ends → e < length t.ends → lo_of t d ≡ lo_of t e → hi_of t d ≡ hi_of t e → d ≡ e
same_ends t ok d e ld le low high = elim (cases_eq d e) [
  | inl same ↦ same
  | inr other ↦ (let off = different t ok d e ld le other in
      let both : same_edge (edge t d) (edge t e) ≡ true =
      ap₂ (λ a b. same_edge (record { lo = corner t a; hi = corner t b }) (edge t e)) low high
      ∙ rw (same_point_refl (corner t (lo_of t e)), same_point_refl (corner t (hi_of t e))) refl in
      absurd (true≢false (sym both ∙ off)))
]

module _ (t : Table) (ok : IsTable t) (ended : AllEnds t) (even : AllEven t) (apart : NoConflict t) (half : HalfEdgeLists) (are : AreHalfEdges t half)
    (opposite : (k : ℕ) → k < length t.ends → exactly_one (left_covered t 0 (2 * k)) (left_covered t 0 (2 * k + 1)) ≡ true) where
  -- both half-edges of an edge do not have the same covered to their left
  unlike : (k : ℕ) → k < length t.ends → left_covered t 0 (2 * k) ≡ left_covered t 0 (2 * k + 1) → ⊥
  unlike k lk same = true≢false (sym (opposite k lk) ∙ (ap (exactly_one (left_covered t 0 (2 * k))) (sym same) ∙ exactly_one_same (left_covered t 0 (2 * k))))

  -- the next has the same to its left
  same_left : (h : ℕ) → h < half_edge_count t → left_covered t 0 h ≡ left_covered t 0 (next_in half h)
  same_left h lt = same_behind t ok ended even apart 0 h (next_in half h) lt (are.nexts h lt)

  -- the next goes on from where a half-edge arrives, and does not come back to where it began
  goes_on : (h : ℕ) → h < half_edge_count t → target t (next_in half h) ≡ origin t h → ⊥
  goes_on h lt back =
      let lt_g = next_within t ok half are h lt in
      let there = leaves_there t ok half are h lt in
      let fits = edge-fits t h lt in
      let fits_g = edge-fits t (next_in half h) lt_g in
      let rise = ok.goes_up (edge_of h) fits in
      let rise_g = ok.goes_up (edge_of (next_in half h)) fits_g in
      let left = same_left h lt in
      elim (either_way h) [
        | inl up ↦ (let ends = up_ends t h up.1 in elim (either_way (next_in half h)) [
          | inl up_g ↦ (let ends_g = up_ends t (next_in half h) up_g.1 in absurd (omega (arith, ends.0, ends.1, ends_g.0, ends_g.1, there, back, rise.0, rise_g.0)))
          | inr down_g ↦ (let ends_g = down_ends t (next_in half h) down_g.1 in
              let one = same_ends t ok (edge_of (next_in half h)) (edge_of h) fits_g fits (sym ends_g.1 ∙ (back ∙ ends.0)) (sym ends_g.0 ∙ (there ∙ ends.1)) in
              unlike (edge_of h) fits (ap (left_covered t 0) (sym up.1) ∙ (left ∙ ap (left_covered t 0) (down_g.1 ∙ ap (λ e. 2 * e + 1) one))))
        ])
        | inr down ↦ (let ends = down_ends t h down.1 in elim (either_way (next_in half h)) [
          | inl up_g ↦ (let ends_g = up_ends t (next_in half h) up_g.1 in
              let one = same_ends t ok (edge_of (next_in half h)) (edge_of h) fits_g fits (sym ends_g.0 ∙ (there ∙ ends.1)) (sym ends_g.1 ∙ (back ∙ ends.0)) in
              unlike (edge_of h) fits (sym (ap (left_covered t 0) (sym down.1) ∙ (left ∙ ap (left_covered t 0) (up_g.1 ∙ ap (λ e. 2 * e) one)))))
          | inr down_g ↦ (let ends_g = down_ends t (next_in half h) down_g.1 in absurd (omega (arith, ends.0, ends.1, ends_g.0, ends_g.1, there, back, rise.0, rise_g.0)))
        ])
      ]

  -- a half-edge does not begin where it arrives
  moves : (h : ℕ) → h < half_edge_count t → origin t h ≡ target t h → ⊥
  moves h lt same =
      let rise = ok.goes_up (edge_of h) (edge-fits t h lt) in
      elim (either_way h) [
        | inl up ↦ (let ends = up_ends t h up.1 in absurd (omega (arith, ends.0, ends.1, same, rise.0)))
        | inr down ↦ (let ends = down_ends t h down.1 in absurd (omega (arith, ends.0, ends.1, same, rise.0)))
      ]

  orbit_long : (h : ℕ) → h < half_edge_count t → (period : ℕ) → IsOrbit (next_in half) h period → 3 ≤ period
  orbit_long h lt zero orbit = let some = orbit.some in absurd (omega (arith, some))
  orbit_long h lt (suc zero) orbit = absurd (moves h lt (ap (origin t) (sym orbit.closes) ∙ leaves_there t ok half are h lt))
  orbit_long h lt (suc (suc zero)) orbit = absurd (goes_on h lt (sym (leaves_there t ok half are (next_in half h) (next_within t ok half are h lt)) ∙ ap (origin t) orbit.closes))
  orbit_long h lt (suc (suc (suc s))) orbit = omega arith

  -- a cycle has three half-edges or more
  pub cycle_long : (h : ℕ) → h < half_edge_count t → 3 ≤ length (cycle t (next_in half) h)
  cycle_long h lt =
      let on = placed t ok half are h lt in
      let long = orbit_long h lt on.period on.orbit in
      let same : length (cycle t (next_in half) h) ≡ on.period = ap length (cycle_is t ok half are h on) ∙ trail_length (next_in half) on.period h in
      omega (arith, long, same)
