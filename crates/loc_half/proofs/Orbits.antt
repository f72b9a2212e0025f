-- Each half-edge of a table is on an orbit, and the half-edges of a cycle are those with its leader.
use Rattle.std.proofs.Common.{◌≡◌, ◌≢◌, ℕ, zero, suc, ◌+◌, ◌-◌, ◌<◌, ◌≤◌, true, List, length, get_or, replicate, sym, ◌∙◌, ap, subst, inl, inr, arith, add-one, set}
use Rattle.std.specs.Prelude.{◌==◌}
use Rattle.std.proofs.lemmas.Bool.{cases_eq, cases_lt}
use Rattle.std.proofs.{lemmas.List.get_or-replicate, lemmas.List.length-replicate, lemmas.List.Sums.count_by-le-length}
use Rattle.loc_spec_plane.specs.{Lists.is_in, Tables.Table, Tables.IsTable}
use Rattle.loc_spec_plane.specs.HalfEdges.{half_edge_count, origin, target, cycle, leader}
use Rattle.loc_half.specs.HalfEdgeLists.{HalfEdgeLists, AreHalfEdges, next_in}
use Rattle.loc_half.specs.Rounds.{next_of, after, IsPermuting, IsRound, AreMarked, leader_among}
use Rattle.loc_half.proofs.Going.{after-add, leader_on_round}
use Rattle.loc_half.proofs.Marking.{IsWalk, unmarked, walk-start, walk-more, walk-falls, marked-more, none_marked}
use Rattle.loc_half.proofs.Permuting.{AllDiffer, leaves, nexts_permute}
use Rattle.loc_half.proofs.Trails.{trail, IsOrbit, cycle_trail, in_trail, from_trail, trail_differs, on_orbit}

module _ (nexts : List ℕ) (permuting : IsPermuting nexts) where
  -- a walk ends where a half-edge has a mark: each step leaves fewer without one
  walk_on : (before : List ℕ) (first : ℕ) (fits : first < length nexts) (fuel : ℕ) (marks : List ℕ) (h : ℕ) → IsWalk nexts before marks first h → unmarked nexts marks ≤ fuel
      → (end : List ℕ) × (last : ℕ) × IsWalk nexts before end first last × (get_or end last 0 ≢ length nexts)
  walk_on before first fits zero marks h walk le = elim (cases_eq (get_or marks h 0) (length nexts)) [
    | inl bare ↦ (let less = walk-falls nexts before permuting first fits marks h walk bare in absurd (omega (arith, less, le)))
    | inr stopped ↦ (marks, h, walk, stopped)
  ]
  walk_on before first fits (suc fuel) marks h walk le = elim (cases_eq (get_or marks h 0) (length nexts)) [
    | inl bare ↦ (let less = walk-falls nexts before permuting first fits marks h walk bare in
        walk_on before first fits fuel (set marks h first) (next_of nexts h) (walk-more nexts before permuting first fits marks h walk bare) (omega (arith, less, le)))
    | inr stopped ↦ (marks, h, walk, stopped)
  ]

  -- all rounds can be marked, from the least half-edge up
  mark_all : (k : ℕ) → k ≤ length nexts → (marks : List ℕ) × AreMarked nexts marks k
  mark_all zero le = (replicate (length nexts) (length nexts), none_marked nexts (replicate (length nexts) (length nexts)) (length-replicate (length nexts) (length nexts)) (λ g lt. get_or-replicate (length nexts) g (length nexts) 0 lt))
  mark_all (suc k) le =
      let done = mark_all k (omega (arith, le)) in
      let walked = walk_on done.0 k (omega (arith, le)) (length nexts) done.0 k (walk-start nexts done.0 permuting k (omega (arith, le)) done.1.as_many) (let most = count_by-le-length (λ m. m == length nexts) done.0 in let size = done.1.as_many in omega (arith, most, size)) in
      (walked.0, subst (AreMarked nexts walked.0) (add-one k) (marked-more nexts done.0 permuting k (omega (arith, le)) walked.0 walked.1 walked.2 done.1 walked.3))

  -- each half-edge is on a round, which begins at its least half-edge
  pub round_of : (h : ℕ) → h < length nexts → (first : ℕ) × (period : ℕ) × (place : ℕ) × IsRound nexts first period × (place < period) × (after (next_of nexts) place first ≡ h)
  round_of h lt =
      let done = mark_all (length nexts) (omega arith) in
      let on = done.1.on_rounds h lt (done.1.all_before h lt) in
      (on.first, on.period, on.place, on.round, on.within, on.here)

  module _ (first period : ℕ) (round : IsRound nexts first period) where
    -- a whole round more or less
    less_round : (m : ℕ) → period ≤ m → after (next_of nexts) m first ≡ after (next_of nexts) (m - period) first
    less_round m le =
        let e : m ≡ (m - period) + period = omega (arith, le) in
        ap (λ k. after (next_of nexts) k first) e ∙ (sym (after-add (next_of nexts) (m - period) period first) ∙ ap (after (next_of nexts) (m - period)) round.closes)

    -- each half-edge of a round is on an orbit of its period
    pub orbit_at : (place : ℕ) → place < period → IsOrbit (next_of nexts) (after (next_of nexts) place first) period
    orbit_at place within = record {
      some = omega (arith, within);
      closes = after-add (next_of nexts) period place first ∙ (less_round (period + place) (omega arith) ∙ (let e : period + place - period ≡ place = omega arith in ap (λ k. after (next_of nexts) k first) e));
      apart = λ i j less lt same.
          (let met : after (next_of nexts) (i + place) first ≡ after (next_of nexts) (j + place) first = sym (after-add (next_of nexts) i place first) ∙ (same ∙ after-add (next_of nexts) j place first) in
          elim (cases_lt (j + place) period) [
            | inl both ↦ round.apart (i + place) (j + place) (omega (arith, less)) both met
            | inr past ↦ elim (cases_lt (i + place) period) [
              | inl one ↦ round.apart (j + place - period) (i + place) (omega (arith, lt, past, less, within)) one (sym (met ∙ less_round (j + place) past))
              | inr none ↦ round.apart (i + place - period) (j + place - period) (omega (arith, less, none, past)) (omega (arith, lt, within)) (sym (less_round (i + place) none) ∙ (met ∙ less_round (j + place) past))
            ]
          ]);
    }

-- ---- the half-edges of a table
module _ (t : Table) (ok : IsTable t) (half : HalfEdgeLists) (are : AreHalfEdges t half) where
  permute : IsPermuting half.nexts
  permute = nexts_permute t ok half.nexts are.as_many_nexts are.nexts

  fits : (h : ℕ) → h < half_edge_count t → h < length half.nexts
  fits h lt = let size = are.as_many_nexts in omega (arith, lt, size)

  -- the orbit of a half-edge, and the steps from its leader to it
  pub record IsPlaced (h : ℕ) : Type 0 where
    pub period : ℕ
    pub place : ℕ
    pub within : place < period
    pub few : period ≤ half_edge_count t
    pub orbit : IsOrbit (next_in half) h period
    pub here : after (next_in half) place (leader t (next_in half) h) ≡ h
    pub back : after (next_in half) (period - place) h ≡ leader t (next_in half) h
    pub inside : (k : ℕ) → after (next_in half) k h < half_edge_count t
    pub leads : (k : ℕ) → leader t (next_in half) (after (next_in half) k h) ≡ leader t (next_in half) h

  -- the leaders on a round are its first half-edge
  leads_by : (first period : ℕ) → IsRound half.nexts first period → 0 < period → (k : ℕ) → leader t (next_in half) (after (next_in half) k first) ≡ first
  leads_by first period round some k =
      let met = on_orbit (next_in half) first period k (orbit_at half.nexts permute first period round 0 some) in
      ap (λ n. leader_among n (next_in half) (after (next_in half) k first)) (sym are.as_many_nexts)
      ∙ (ap (leader_among (length half.nexts) (next_in half)) (sym met.2) ∙ leader_on_round half.nexts first period round met.0 met.1)

  inside_by : (h : ℕ) → h < length half.nexts → (k : ℕ) → after (next_in half) k h < length half.nexts
  inside_by h lt zero = lt
  inside_by h lt (suc k) = permute.in_range (after (next_in half) k h) (inside_by h lt k)

  pub placed : (h : ℕ) → h < half_edge_count t → IsPlaced h
  placed h lt =
      let on = round_of half.nexts permute h (fits h lt) in
      let leads : leader t (next_in half) h ≡ on.0 = ap (leader t (next_in half)) (sym on.5) ∙ leads_by on.0 on.1 on.3 (omega (arith, on.4)) on.2 in
      record {
        period = on.1;
        place = on.2;
        within = on.4;
        few = omega (arith, on.3.few, are.as_many_nexts);
        orbit = subst (λ x. IsOrbit (next_in half) x on.1) on.5 (orbit_at half.nexts permute on.0 on.1 on.3 on.2 on.4);
        here = ap (after (next_in half) on.2) leads ∙ on.5;
        back = ap (after (next_in half) (on.1 - on.2)) (sym on.5) ∙ (after-add (next_in half) (on.1 - on.2) on.2 on.0 ∙ (let e : on.1 - on.2 + on.2 ≡ on.1 = omega (arith, on.4) in ap (λ k. after (next_in half) k on.0) e ∙ (on.3.closes ∙ sym leads)));
        leads = λ k. ap (λ x. leader t (next_in half) (after (next_in half) k x)) (sym on.5) ∙ (ap (leader t (next_in half)) (after-add (next_in half) k on.2 on.0) ∙ (leads_by on.0 on.1 on.3 (omega (arith, on.4)) (k + on.2) ∙ sym leads));
        inside = λ k. (let at = inside_by h (fits h lt) k in omega (arith, at, are.as_many_nexts));
      }

  -- the cycle of a half-edge, as so many steps
  pub cycle_is : (h : ℕ) (on : IsPlaced h) → cycle t (next_in half) h ≡ trail (next_in half) on.period h
  cycle_is h on = cycle_trail (next_in half) (half_edge_count t) h on.period on.few on.orbit

  -- what one meets stands in the cycle
  pub met_in : (h : ℕ) → h < half_edge_count t → (k : ℕ) → is_in (after (next_in half) k h) (cycle t (next_in half) h) ≡ true
  met_in h lt k =
      let on = placed h lt in
      let met = on_orbit (next_in half) h on.period k on.orbit in
      subst (λ l. is_in (after (next_in half) k h) l ≡ true) (sym (cycle_is h on)) (subst (λ g. is_in g (trail (next_in half) on.period h) ≡ true) met.2 (in_trail (next_in half) on.period h met.0 met.1))

  -- and what stands there is met
  pub in_met : (g h : ℕ) → h < half_edge_count t → is_in g (cycle t (next_in half) h) ≡ true → (k : ℕ) × (after (next_in half) k h ≡ g)
  in_met g h lt here =
      let on = placed h lt in
      let found = from_trail (next_in half) on.period h g (subst (λ l. is_in g l ≡ true) (cycle_is h on) here) in
      (found.0, found.2)

  pub cycle_within : (g h : ℕ) → h < half_edge_count t → is_in g (cycle t (next_in half) h) ≡ true → g < half_edge_count t
  cycle_within g h lt here = let met = in_met g h lt here in subst (λ x. x < half_edge_count t) met.1 ((placed h lt).inside met.0)

  -- the half-edges of a cycle differ
  pub cycle_differs : (h : ℕ) → h < half_edge_count t → AllDiffer (cycle t (next_in half) h)
  cycle_differs h lt = let on = placed h lt in subst AllDiffer (sym (cycle_is h on)) (trail_differs (next_in half) on.period h on.orbit.apart)

  -- the leader is on the cycle
  pub leader_in : (h : ℕ) → h < half_edge_count t → is_in (leader t (next_in half) h) (cycle t (next_in half) h) ≡ true
  leader_in h lt = let on = placed h lt in subst (λ x. is_in x (cycle t (next_in half) h) ≡ true) on.back (met_in h lt (on.period - on.place))

  pub leader_within : (h : ℕ) → h < half_edge_count t → leader t (next_in half) h < half_edge_count t
  leader_within h lt = cycle_within (leader t (next_in half) h) h lt (leader_in h lt)

  -- the half-edges of a cycle have its leader
  pub same_cycle : (g h : ℕ) → h < half_edge_count t → is_in g (cycle t (next_in half) h) ≡ true → leader t (next_in half) g ≡ leader t (next_in half) h
  same_cycle g h lt here = let met = in_met g h lt here in ap (leader t (next_in half)) (sym met.1) ∙ (placed h lt).leads met.0

  -- and all that have it are there
  pub in_cycle : (g h : ℕ) → g < half_edge_count t → h < half_edge_count t → leader t (next_in half) g ≡ leader t (next_in half) h → is_in g (cycle t (next_in half) h) ≡ true
  in_cycle g h lt_g lt_h same =
      let on_g = placed g lt_g in
      let on_h = placed h lt_h in
      let way : after (next_in half) (on_g.place + (on_h.period - on_h.place)) h ≡ g =
      sym (after-add (next_in half) on_g.place (on_h.period - on_h.place) h) ∙ (ap (after (next_in half) on_g.place) (on_h.back ∙ sym same) ∙ on_g.here) in
      subst (λ x. is_in x (cycle t (next_in half) h) ≡ true) way (met_in h lt_h (on_g.place + (on_h.period - on_h.place)))

  -- the leader leads itself
  pub leads_itself : (h : ℕ) → h < half_edge_count t → leader t (next_in half) (leader t (next_in half) h) ≡ leader t (next_in half) h
  leads_itself h lt = same_cycle (leader t (next_in half) h) h lt (leader_in h lt)

  pub next_within : (h : ℕ) → h < half_edge_count t → next_in half h < half_edge_count t
  next_within h lt = (placed h lt).inside 1

  -- a half-edge is the next of another on its cycle
  pub comes_from : (h : ℕ) → h < half_edge_count t → (p : ℕ) × (p < half_edge_count t) × (next_in half p ≡ h) × (leader t (next_in half) p ≡ leader t (next_in half) h)
  comes_from h lt = by (placed h lt).period (placed h lt).orbit
    where
      by : (period : ℕ) → IsOrbit (next_in half) h period → (p : ℕ) × (p < half_edge_count t) × (next_in half p ≡ h) × (leader t (next_in half) p ≡ leader t (next_in half) h)
      by zero orbit = let some = orbit.some in absurd (omega (arith, some))
      by (suc s) orbit = (after (next_in half) s h, (placed h lt).inside s, orbit.closes, (placed h lt).leads s)

  -- a half-edge leaves where the one before it arrives
  pub leaves_there : (h : ℕ) → h < half_edge_count t → origin t (next_in half h) ≡ target t h
  leaves_there h lt = leaves t ok half.nexts are.as_many_nexts are.nexts h lt
