-- The corners of a cycle, put one after the other: what is to come is the way back to the leader, which grows shorter.
use Rattle.std.proofs.Common.{◌≡◌, ◌≢◌, ℕ, zero, suc, ◌<◌, ◌≤◌, List, [], ◌∷◌, ◌++◌, length, Result, Ok, Err, refl, sym, ◌∙◌, ap, subst, arith}
use Rattle.std.specs.{Prelude.codes, List.flat_map}
use Rattle.std.proofs.lemmas.List.Folds.{flat_map-map}
use Rattle.loc_io.specs.{declared.sink.WriteFault.WriteFault, Streams.Stream}
use Rattle.loc_page.specs.Puts.{PutsText}
use Rattle.loc_page.proofs.Pages.{Goes, both, goes_end, goes_more, stop}
use Rattle.loc_spec_plane.specs.{Tables.Table, Tables.IsTable, HalfEdges.half_edge_count, HalfEdges.way_to}
use Rattle.loc_half.specs.{HalfEdgeLists.HalfEdgeLists, HalfEdgeLists.AreHalfEdges, HalfEdgeLists.next_in, Rounds.after}
use Rattle.loc_half.proofs.{Going.after-next, Orbits.placed, Orbits.next_within, Trails.IsOrbit, Trails.way-trail}
use Rattle.loc_faces.specs.FaceTexts.{corner_text, cycle_text}

-- the further corners on the way from h to the leader
abbrev pub later_text : ℕ → Table → HalfEdgeLists → ℕ → ℕ → List ℕ
later_text scale t half leader h = flat_map (λ g. codes ", " ++ corner_text scale t g) (way_to (next_in half) leader (half_edge_count t) h)

-- what a put comes to
abbrev pub Answer : Type 0
Answer = Result (Unit {0}) WriteFault

-- h is so many steps before the leader, and what is to come from h on is what is left of the text
pub record IsPutTo (scale : ℕ) (t : Table) (half : HalfEdgeLists) (leader : ℕ) (o m : Stream) (held kept : List ℕ) (h : ℕ) : Type 0 where
  pub steps : ℕ
  pub few : steps ≤ half_edge_count t
  pub within : h < half_edge_count t
  pub back : after (next_in half) steps h ≡ leader
  pub off : (j : ℕ) → j < steps → after (next_in half) j h ≢ leader
  pub goes : Goes (cycle_text scale t (next_in half) leader) (later_text scale t half leader h) o m held kept

-- the corners of a cycle: that of the leader, and the further ones
pub cycle_split : (scale : ℕ) (t : Table) (half : HalfEdgeLists) (leader : ℕ) → cycle_text scale t (next_in half) leader ≡ corner_text scale t leader ++ later_text scale t half leader (next_in half leader)
cycle_split scale t half leader = ap (λ l. corner_text scale t leader ++ l) (flat_map-map (λ later. codes ", " ++ later) (corner_text scale t) (way_to (next_in half) leader (half_edge_count t) (next_in half leader)))

module _ (scale : ℕ) (t : Table) (ok : IsTable t) (half : HalfEdgeLists) (are : AreHalfEdges t half) (leader : ℕ) (lt : leader < half_edge_count t) where
  -- behind the leader
  pub put_first : (o m : Stream) (held kept : List ℕ) (first : Answer) → first ≡ Ok tt → PutsText (corner_text scale t leader) o m held kept first → IsPutTo scale t half leader o m held kept (next_in half leader)
  put_first o m held kept first is put = by (placed t ok half are leader lt).period (placed t ok half are leader lt).few (placed t ok half are leader lt).orbit
    where
      by : (period : ℕ) → period ≤ half_edge_count t → IsOrbit (next_in half) leader period → IsPutTo scale t half leader o m held kept (next_in half leader)
      by zero few orbit = let some = orbit.some in absurd (omega (arith, some))
      by (suc s) few orbit = record {
        steps = s;
        few = omega (arith, few);
        within = next_within t ok half are leader lt;
        back = after-next (next_in half) s leader ∙ orbit.closes;
        off = λ j less e. orbit.apart 0 (suc j) (omega arith) (omega (arith, less)) (sym (sym (after-next (next_in half) j leader) ∙ e));
        goes = λ n k r q. subst (λ l. PutsText l o n held k r) (sym (cycle_split scale t half leader)) (both is put q);
      }

  module _ (o m : Stream) (held kept : List ℕ) (h : ℕ) (so_far : IsPutTo scale t half leader o m held kept h) where
    -- the way from h on, where h is not the leader
    way_on : h ≢ leader → (s : ℕ) → s ≡ so_far.steps → (way_to (next_in half) leader (half_edge_count t) h ≡ h ∷ way_to (next_in half) leader (half_edge_count t) (next_in half h)) × (0 < s)
    way_on away zero is = absurd (away (ap (λ k. after (next_in half) k h) is ∙ so_far.back))
    way_on away (suc s) is =
        let few = so_far.few in (
          way-trail (next_in half) leader (suc s) (half_edge_count t) h (omega (arith, few, is)) (ap (λ k. after (next_in half) k h) is ∙ so_far.back) (λ j less. so_far.off j (omega (arith, less, is)))
              ∙ ap (λ l. h ∷ l) (sym (way-trail (next_in half) leader s (half_edge_count t) (next_in half h) (omega (arith, few, is)) (after-next (next_in half) s h ∙ (ap (λ k. after (next_in half) k h) is ∙ so_far.back)) (λ j less e. so_far.off (suc j) (omega (arith, less, is)) (sym (after-next (next_in half) j h) ∙ e)))),
          omega arith,
        )

    pub later_split : h ≢ leader → later_text scale t half leader h ≡ (codes ", " ++ corner_text scale t h) ++ later_text scale t half leader (next_in half h)
    later_split away = ap (flat_map (λ g. codes ", " ++ corner_text scale t g)) (way_on away so_far.steps refl).0

    -- fewer half-edges are left
    pub way_shorter : h ≢ leader → length (way_to (next_in half) leader (half_edge_count t) (next_in half h)) < length (way_to (next_in half) leader (half_edge_count t) h)
    way_shorter away = let e = ap length (way_on away so_far.steps refl).0 in omega (arith, e)

    -- what is left, by its first corner
    goes_split : h ≢ leader → Goes (cycle_text scale t (next_in half) leader) ((codes ", " ++ corner_text scale t h) ++ later_text scale t half leader (next_in half h)) o m held kept
    goes_split away = subst (λ l. Goes (cycle_text scale t (next_in half) leader) l o m held kept) (later_split away) so_far.goes

    -- one corner more
    pub put_more : (n : Stream) (k : List ℕ) (first : Answer) → h ≢ leader → first ≡ Ok tt → PutsText (codes ", " ++ corner_text scale t h) m n kept k first → IsPutTo scale t half leader o n held k (next_in half h)
    put_more n k first away is put = by so_far.steps refl
      where
        by : (s : ℕ) → s ≡ so_far.steps → IsPutTo scale t half leader o n held k (next_in half h)
        by zero at = absurd (away (ap (λ i. after (next_in half) i h) at ∙ so_far.back))
        by (suc s) at = let few = so_far.few in record {
          steps = s;
          few = omega (arith, few, at);
          within = next_within t ok half are h so_far.within;
          back = after-next (next_in half) s h ∙ (ap (λ i. after (next_in half) i h) at ∙ so_far.back);
          off = λ j less e. so_far.off (suc j) (omega (arith, less, at)) (sym (after-next (next_in half) j h) ∙ e);
          goes = goes_more _ (codes ", " ++ corner_text scale t h) _ _ _ is (goes_split away) put;
        }

    -- a write that failed
    pub put_cut : {n : Stream} {k : List ℕ} {first second : Answer} {e d : WriteFault} → h ≢ leader → first ≡ Err e → second ≡ Err d → PutsText (codes ", " ++ corner_text scale t h) m n kept k first → PutsText (cycle_text scale t (next_in half) leader) o n held k second
    put_cut away is fails failed = goes_split away _ _ _ (stop (later_text scale t half leader (next_in half h)) is fails failed)

    -- back at the leader
    pub put_all : h ≡ leader → PutsText {T = Unit {0}} {E = WriteFault} (cycle_text scale t (next_in half) leader) o m held kept (Ok tt)
    put_all at = by so_far.steps refl
      where
        by : (s : ℕ) → s ≡ so_far.steps → PutsText {T = Unit {0}} {E = WriteFault} (cycle_text scale t (next_in half) leader) o m held kept (Ok tt)
        by zero is = goes_end (λ (xs : List ℕ). []) [] 0 _ _ _ _ _ tt (omega arith) refl (subst (λ l. Goes (cycle_text scale t (next_in half) leader) l o m held kept) (ap (λ way. flat_map (λ g. codes ", " ++ corner_text scale t g) way) (way-trail (next_in half) leader 0 (half_edge_count t) h (omega arith) at (λ j less. absurd (omega arith)))) so_far.goes)
        by (suc s) is = absurd (so_far.off 0 (omega (arith, is)) at)
