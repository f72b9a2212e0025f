-- The corners of a cycle, put one behind the other: what is to come is the way back to the leader, which grows shorter.
use Rattle.std.proofs.Common.{◌≡◌, ◌≢◌, ℕ, zero, suc, ◌<◌, ◌≤◌, List, [], ◌∷◌, ◌++◌, length, map, refl, sym, ◌∙◌, ap, append_assoc, append-nil, arith}
use Rattle.loc_spec_plane.specs.{Points.Point, Tables.Table, Tables.IsTable, Tables.corner}
use Rattle.loc_spec_plane.specs.HalfEdges.{half_edge_count, origin, way_to}
use Rattle.loc_half.specs.{HalfEdgeLists.HalfEdgeLists, HalfEdgeLists.AreHalfEdges, HalfEdgeLists.next_in, Rounds.after}
use Rattle.loc_half.proofs.{Going.after-next, Orbits.placed, Orbits.next_within, Trails.IsOrbit, Trails.way-trail}
use Rattle.loc_spec_groups.specs.Groups.{ring_from}

-- the further corners on the way from h to the leader
abbrev pub later_corners : Table → HalfEdgeLists → ℕ → ℕ → List Point
later_corners t half leader h = map (λ g. corner t (origin t g)) (way_to (next_in half) leader (half_edge_count t) h)

-- h is so many steps before the leader, and the corners are those so far with what is to come from h on
pub record IsWalkedTo (t : Table) (half : HalfEdgeLists) (leader : ℕ) (corners : List Point) (h : ℕ) : Type 0 where
  pub steps : ℕ
  pub few : steps ≤ half_edge_count t
  pub within : h < half_edge_count t
  pub back : after (next_in half) steps h ≡ leader
  pub off : (j : ℕ) → j < steps → after (next_in half) j h ≢ leader
  pub ring : (face : ℕ → ℕ) → ring_from t (next_in half) face leader ≡ corners ++ later_corners t half leader h

module _ (t : Table) (ok : IsTable t) (half : HalfEdgeLists) (are : AreHalfEdges t half) (leader : ℕ) (lt : leader < half_edge_count t) where
  -- behind the leader
  pub walked_first : IsWalkedTo t half leader (corner t (origin t leader) ∷ []) (next_in half leader)
  walked_first = by (placed t ok half are leader lt).period (placed t ok half are leader lt).few (placed t ok half are leader lt).orbit
    where
      by : (period : ℕ) → period ≤ half_edge_count t → IsOrbit (next_in half) leader period → IsWalkedTo t half leader (corner t (origin t leader) ∷ []) (next_in half leader)
      by zero few orbit = let some = orbit.some in absurd (omega (arith, some))
      by (suc s) few orbit = record {
        steps = s;
        few = omega (arith, few);
        within = next_within t ok half are leader lt;
        back = after-next (next_in half) s leader ∙ orbit.closes;
        off = λ j less e. orbit.apart 0 (suc j) (omega arith) (omega (arith, less)) (sym (sym (after-next (next_in half) j leader) ∙ e));
        ring = λ face. refl;
      }

  module _ (corners : List Point) (h : ℕ) (so_far : IsWalkedTo t half leader corners h) where
    -- the way from h on, where h is not the leader
    way_on : h ≢ leader → (s : ℕ) → s ≡ so_far.steps → (way_to (next_in half) leader (half_edge_count t) h ≡ h ∷ way_to (next_in half) leader (half_edge_count t) (next_in half h)) × (0 < s)
    way_on away zero is = absurd (away (ap (λ k. after (next_in half) k h) is ∙ so_far.back))
    way_on away (suc s) is =
        let few = so_far.few in (
          way-trail (next_in half) leader (suc s) (half_edge_count t) h (omega (arith, few, is)) (ap (λ k. after (next_in half) k h) is ∙ so_far.back) (λ j less. so_far.off j (omega (arith, less, is)))
              ∙ ap (λ l. h ∷ l) (sym (way-trail (next_in half) leader s (half_edge_count t) (next_in half h) (omega (arith, few, is)) (after-next (next_in half) s h ∙ (ap (λ k. after (next_in half) k h) is ∙ so_far.back)) (λ j less e. so_far.off (suc j) (omega (arith, less, is)) (sym (after-next (next_in half) j h) ∙ e)))),
          omega arith,
        )

    -- fewer half-edges are left
    pub way_shorter : h ≢ leader → length (way_to (next_in half) leader (half_edge_count t) (next_in half h)) < length (way_to (next_in half) leader (half_edge_count t) h)
    way_shorter away = let e = ap length (way_on away so_far.steps refl).0 in omega (arith, e)

    -- one corner more
    pub walked_more : h ≢ leader → IsWalkedTo t half leader (corners ++ corner t (origin t h) ∷ []) (next_in half h)
    walked_more away = by so_far.steps refl
      where
        by : (s : ℕ) → s ≡ so_far.steps → IsWalkedTo t half leader (corners ++ corner t (origin t h) ∷ []) (next_in half h)
        by zero is = absurd (away (ap (λ k. after (next_in half) k h) is ∙ so_far.back))
        by (suc s) is = let few = so_far.few in record {
          steps = s;
          few = omega (arith, few, is);
          within = next_within t ok half are h so_far.within;
          back = after-next (next_in half) s h ∙ (ap (λ k. after (next_in half) k h) is ∙ so_far.back);
          off = λ j less e. so_far.off (suc j) (omega (arith, less, is)) (sym (after-next (next_in half) j h) ∙ e);
          ring = λ face. so_far.ring face ∙ (ap (λ way. corners ++ map (λ g. corner t (origin t g)) way) (way_on away so_far.steps refl).0 ∙ sym (append_assoc corners (corner t (origin t h) ∷ []) (later_corners t half leader (next_in half h))));
        }

    -- back at the leader
    pub walked_all : h ≡ leader → (face : ℕ → ℕ) → corners ≡ ring_from t (next_in half) face leader
    walked_all at face = by so_far.steps refl
      where
        by : (s : ℕ) → s ≡ so_far.steps → corners ≡ ring_from t (next_in half) face leader
        by zero is = sym (so_far.ring face ∙ (ap (λ way. corners ++ map (λ g. corner t (origin t g)) way) (way-trail (next_in half) leader 0 (half_edge_count t) h (omega arith) at (λ j less. absurd (omega arith))) ∙ append-nil corners))
        by (suc s) is = absurd (so_far.off 0 (omega (arith, is)) at)
