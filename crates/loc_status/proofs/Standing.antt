-- The places of edges in a list of edge numbers.
use Rattle.std.proofs.Common.{◌≡◌, ℕ, suc, ◌+◌, ◌-◌, ◌<◌, ◌≤◌, Bool, true, false, ◌&&◌, List, [], ◌∷◌, length, map, take, drop, get_or, refl, sym, ◌∙◌, ap, subst, ◌⊎◌, inl, inr, arith, Some, slice_get}
use Rattle.std.specs.Prelude.{◌==◌}
use Rattle.std.specs.List.{All, list_all}
use Rattle.std.proofs.lemmas.Bool.{and_from, and_parts, both_ways, cases_Bool, cases_eq, cases_lt, cond-true, cond-false, eq-eqb, false_from_ne_true, lt-ltb, not-true, ne_eqb, or_cases}
use Rattle.std.proofs.lemmas.List.{get_or_past, get_or-take, get_or-drop, length-drop, length-map, length-take-le}
use Rattle.std.proofs.lemmas.List.Elements.{All-from_get_or, All-get_or}
use Rattle.std.proofs.lemmas.Option.{slice_get-get_or, slice_get_within, get_or_from_slice_get}
use Rattle.loc_spec_plane.specs.Points.{Point, Edge, before, up_to, same_point, is_above}
use Rattle.loc_spec_plane.specs.Lists.{is_in}
use Rattle.loc_spec_plane.specs.Tables.{Table, IsTable, corner, edge, lo_of, hi_of}
use Rattle.loc_spec_plane.specs.Places.{alive, alive_at, is_edge, is_chain, lower_of}
use Rattle.loc_edges.specs.declared.ranks.Placing.{Placing}
use Rattle.loc_edges.specs.declared.ranks.Placing.TheVariants.{Below, Above}
use Rattle.loc_edges.specs.Placing.{IsPlacing, deciding_end}
use Rattle.loc_edges.proofs.Hits.{above-misses, below-misses}
use Rattle.loc_laws_order.proofs.{ListLaws.get-map, Tests.alive_up}
use Rattle.loc_laws_order.proofs.Sides.{before_irrefl, before_decides, above-not_below, above-not_low, lower-asym}
use Rattle.loc_laws_order.proofs.TableOrder.{corner_before, corner_up_to, same_corner}
use Rattle.loc_laws_order.proofs.ChainLaws.{chain_above}
use Rattle.loc_status.specs.declared.targets.Target.TheVariants.{Begin, End, Corner}
use Rattle.loc_status.specs.Lists.{is_chain_at, GoesAbove, GoesBelow, IsPlaceFor}
use Rattle.loc_status.specs.Targets.{begins_above, is_passed, IsSearchEnd}
use Rattle.loc_status.proofs.Beginning.{begins_below, chain_alive, other_end, above_passes_down, below_passes_up}
use Rattle.loc_status.proofs.Ending.{ends_lower, ends_not_lower, ends_above, ends_not_above}
use Rattle.loc_status.proofs.Ends.{IsParted, ends_there, member_place}

-- a number that is no edge's is alive nowhere
alive_in_range : (t : Table) (p : Point) (n : ℕ) → alive (edge t n) p ≡ true → n < length t.ends
alive_in_range t p n live = elim (cases_lt n (length t.ends)) [
  | inl less ↦ less
  | inr past ↦ (let missing = get_or_past t.ends n (0, 0) past in
      let up = alive_up (edge t n) p live in
      let same : (edge t n).lo ≡ (edge t n).hi = ap (λ (pair : ℕ × ℕ). corner t pair.0) missing ∙ sym (ap (λ (pair : ℕ × ℕ). corner t pair.1) missing) in
      absurd (both_ways (before (edge t n).lo (edge t n).hi) (subst (λ q. before (edge t n).lo q ≡ false) same (before_irrefl (edge t n).lo)) ((before_decides (edge t n).lo (edge t n).hi).1 up)))
]

-- the edge at a place, by its points
edge_at : (t : Table) (es : List ℕ) (i : ℕ) → i < length es → slice_get (map (edge t) es) i ≡ Some (edge t (get_or es i 0))
edge_at t es i fits = get-map (edge t) es i (get_or es i 0) (slice_get-get_or es i 0 fits)

-- an edge of a chain is alive there
pub member_alive : (t : Table) (p : Point) (es : List ℕ) → is_chain p (map (edge t) es) ≡ true → (i : ℕ) → i < length es → alive_at t p (get_or es i 0) ≡ true
member_alive t p es chain i fits =
    let live = chain_alive (map (edge t) es) p chain i (edge t (get_or es i 0)) (edge_at t es i fits) in
    and_from (is_edge t (get_or es i 0)) (alive (edge t (get_or es i 0)) p) (lt-ltb (get_or es i 0) (length t.ends) (alive_in_range t p (get_or es i 0) live)) live

-- the numbers of a chain are those of edges
pub chain_in_range : (t : Table) (p : Point) (es : List ℕ) → is_chain p (map (edge t) es) ≡ true → All (λ e. e < length t.ends) es
chain_in_range t p es chain = All-from_get_or (λ e. e < length t.ends) es 0 (λ i fits. alive_in_range t p (get_or es i 0) (chain_alive (map (edge t) es) p chain i (edge t (get_or es i 0)) (edge_at t es i fits)))

-- ---- an edge by its lower end
-- of two edges that begin at different corners, the lower end of the second decides
pub lower_end_decides : (t : Table) → IsTable t → (a b : ℕ) → a < length t.ends → b < length t.ends → (lo_of t a ≡ lo_of t b → ⊥) → deciding_end (edge t a) (edge t b) ≡ (edge t b).lo
lower_end_decides t ok a b fits_a fits_b other =
    let up_a = ok.goes_up a fits_a in
    let up_b = ok.goes_up b fits_b in
    other_end (edge t a) (edge t b) (same_corner t ok (lo_of t a) (lo_of t b) (omega arith) (omega arith) ∙ ne_eqb (lo_of t b) (lo_of t a) (λ same. other (sym same)))

module _ (t : Table) (e : ℕ) (es : List ℕ) (chain : is_chain (edge t e).lo (map (edge t) es) ≡ true) (up : before (edge t e).lo (edge t e).hi ≡ true) (place : ℕ) (end : IsSearchEnd (is_passed t (Begin e)) es place) where
  above_at : (i : ℕ) → i < place → begins_above (edge t (get_or es i 0)) (edge t e) ≡ true
  above_at i less =
      let last : begins_above (edge t (get_or es (place - 1) 0)) (edge t e) ≡ true = end.passed (omega arith) in
      let within : place ≤ length es = end.within in
      elim (cases_eq i (place - 1)) [
        | inl same ↦ subst (λ k. begins_above (edge t (get_or es k 0)) (edge t e) ≡ true) (sym same) last
        | inr other ↦ above_passes_down (map (edge t) es) (edge t e) up chain i (place - 1) (edge t (get_or es i 0)) (edge t (get_or es (place - 1) 0)) (omega arith) (edge_at t es i (omega arith)) (edge_at t es (place - 1) (omega arith)) last
      ]

  -- a new edge goes above the edges before the end of its search
  goes_above : GoesAbove t e (take place es)
  goes_above =
      let within : place ≤ length es = end.within in
      All-from_get_or (λ a. IsPlacing (edge t a) (edge t e) Above) (take place es) 0 (λ i fits.
      (let less : i < place = omega (arith, length-take-le place es within) in
      let above = above_at i less in
      subst (λ a. IsPlacing (edge t a) (edge t e) Above) (sym (get_or-take place es i 0 less)) (above-misses (edge t (get_or es i 0)) (edge t e) above, above)))

  below_at : begins_below (edge t (get_or es place 0)) (edge t e) ≡ true → (i : ℕ) → place ≤ i → i < length es → begins_below (edge t (get_or es i 0)) (edge t e) ≡ true
  below_at below i more fits = elim (cases_eq i place) [
    | inl same ↦ subst (λ k. begins_below (edge t (get_or es k 0)) (edge t e) ≡ true) (sym same) below
    | inr other ↦ below_passes_up (map (edge t) es) (edge t e) up chain place i (edge t (get_or es place 0)) (edge t (get_or es i 0)) (omega arith) (edge_at t es place (omega arith)) (edge_at t es i fits) below
  ]

  -- and below the others, where it goes below the first of them
  goes_below : (place < length es → begins_below (edge t (get_or es place 0)) (edge t e) ≡ true) → GoesBelow t e (drop place es)
  goes_below below = All-from_get_or (λ a. IsPlacing (edge t a) (edge t e) Below) (drop place es) 0 (λ i fits.
      (let less : place + i < length es = omega (arith, length-drop place es) in
      let under = below_at (below (omega arith)) (place + i) (omega arith) less in
      subst (λ a. IsPlacing (edge t a) (edge t e) Below) (sym (get_or-drop place es i 0)) (below-misses (edge t (get_or es (place + i) 0)) (edge t e) under, under)))

  -- so its place is there
  pub is_place_for : (place < length es → begins_below (edge t (get_or es place 0)) (edge t e) ≡ true) → IsPlaceFor t e es place
  is_place_for below = record { within = end.within; behind = goes_above; ahead = goes_below below }

-- an edge that stands below or above another, and does not begin above it, begins below it
pub below_by_placing : (a b : Edge) (placing : Placing) → IsPlacing a b placing → begins_above a b ≡ false → (placing ≡ Below) ⊎ (placing ≡ Above) → begins_below a b ≡ true
below_by_placing a b placing is_placing off (inl same) = let below : IsPlacing a b Below = subst (λ p. IsPlacing a b p) same is_placing in below.1
below_by_placing a b placing is_placing off (inr same) = let above : IsPlacing a b Above = subst (λ p. IsPlacing a b p) same is_placing in absurd (both_ways (begins_above a b) off above.1)

-- ---- an edge by its upper end, in a chain at the corner before it
all_from_get : {X : Type 0} (test : X → Bool) (xs : List X) → ((i : ℕ) (x : X) → slice_get xs i ≡ Some x → test x ≡ true) → list_all test xs ≡ true
all_from_get test [] each = refl
all_from_get test (x ∷ xs) each = and_from (test x) (list_all test xs) (each 0 x refl) (all_from_get test xs (λ i. each (suc i)))

module _ (t : Table) (ok : IsTable t) (e : ℕ) (fits : e < length t.ends) (es : List ℕ) (chain : is_chain (corner t (hi_of t e - 1)) (map (edge t) es) ≡ true) where
  ends_later : before (corner t (hi_of t e - 1)) (edge t e).hi ≡ true
  ends_later = let up = ok.goes_up e fits in corner_before t ok (hi_of t e - 1) (hi_of t e) (omega arith) up.1

  member_fits : (i : ℕ) → i < length es → get_or es i 0 < length t.ends
  member_fits i less = All-get_or (λ a. a < length t.ends) es i 0 less (chain_in_range t (corner t (hi_of t e - 1)) es chain)

  -- an edge that is alive at a corner ends at the next or behind it
  reaches : (a : ℕ) → a < length t.ends → alive (edge t a) (corner t (hi_of t e - 1)) ≡ true → up_to (corner t (hi_of t e)) (corner t (hi_of t a)) ≡ true
  reaches a fits_a live =
      let up = ok.goes_up e fits in
      let top = ok.goes_up a fits_a in
      let last : before (corner t (hi_of t e - 1)) (corner t (hi_of t a)) ≡ true = (and_parts (up_to (corner t (lo_of t a)) (corner t (hi_of t e - 1))) (before (corner t (hi_of t e - 1)) (corner t (hi_of t a))) live).1 in
      elim (cases_lt (hi_of t a) (hi_of t e)) [
        | inl less ↦ absurd (both_ways (before (corner t (hi_of t e - 1)) (corner t (hi_of t a))) (not-true (before (corner t (hi_of t e - 1)) (corner t (hi_of t a))) (corner_up_to t ok (hi_of t a) (hi_of t e - 1) (omega arith) (omega arith))) last)
        | inr more ↦ corner_up_to t ok (hi_of t e) (hi_of t a) more top.1
      ]

  all_reach : list_all (λ (d : Edge). up_to (edge t e).hi d.hi) (map (edge t) es) ≡ true
  all_reach = all_from_get (λ (d : Edge). up_to (edge t e).hi d.hi) (map (edge t) es) (λ i d at.
      (let within : i < length es = omega (arith, slice_get_within (map (edge t) es) i d at, length-map es (edge t)) in
      let here = edge_at t es i within in
      let same : edge t (get_or es i 0) ≡ d = cc in
      subst (λ (d : Edge). up_to (edge t e).hi d.hi ≡ true) same (reaches (get_or es i 0) (member_fits i within) (chain_alive (map (edge t) es) (corner t (hi_of t e - 1)) chain i (edge t (get_or es i 0)) here))))

  -- two edges end at one corner where its number is the same
  same_end : (a : ℕ) → a < length t.ends → same_point (edge t e).hi (edge t a).hi ≡ (hi_of t a == hi_of t e)
  same_end a fits_a = same_corner t ok (hi_of t e) (hi_of t a) (ok.goes_up e fits).1 (ok.goes_up a fits_a).1

  -- the edges before it are those that the search passes
  pub parted_by_end : (j : ℕ) → slice_get es j ≡ Some e → IsParted (is_passed t (End e)) es j
  parted_by_end j at = record { before = passed; behind = not_passed }
    where
      passed : (i : ℕ) → i < j → i < length es → is_passed t (End e) (get_or es i 0) ≡ true
      passed i less within =
          let d = get_or es i 0 in
          let at_i = edge_at t es i within in
          let at_j = get-map (edge t) es j e at in
          let tie = same_end d (member_fits i within) in
          elim (cases_Bool (hi_of t d == hi_of t e)) [
            | inl common ↦ cond-true (hi_of t d == hi_of t e) (lower_of t d e) (is_above (edge t d) (edge t e).hi) common ∙ ends_lower (map (edge t) es) (corner t (hi_of t e - 1)) (edge t e) chain ends_later all_reach i j (edge t d) less at_i at_j (tie ∙ common)
            | inr apart ↦ cond-false (hi_of t d == hi_of t e) (lower_of t d e) (is_above (edge t d) (edge t e).hi) apart ∙ ends_above (map (edge t) es) (corner t (hi_of t e - 1)) (edge t e) chain ends_later all_reach i j (edge t d) less at_i at_j (tie ∙ apart)
          ]

      itself : is_passed t (End e) e ≡ false
      itself = cond-true (hi_of t e == hi_of t e) (lower_of t e e) (is_above (edge t e) (edge t e).hi) (eq-eqb (hi_of t e) (hi_of t e) refl) ∙ false_from_ne_true (lower_of t e e) (λ h. lower-asym (edge t e) (edge t e) h h)

      not_passed : (i : ℕ) → j ≤ i → i < length es → is_passed t (End e) (get_or es i 0) ≡ false
      not_passed i more within =
          let d = get_or es i 0 in
          let at_i = edge_at t es i within in
          let at_j = get-map (edge t) es j e at in
          let tie = same_end d (member_fits i within) in
          elim (cases_eq j i) [
            | inl same ↦ subst (λ k. is_passed t (End e) k ≡ false) (sym (get_or_from_slice_get es i e 0 (subst (λ k. slice_get es k ≡ Some e) same at))) itself
            | inr other ↦ elim (cases_Bool (hi_of t d == hi_of t e)) [
              | inl common ↦ cond-true (hi_of t d == hi_of t e) (lower_of t d e) (is_above (edge t d) (edge t e).hi) common ∙ ends_not_lower (map (edge t) es) (corner t (hi_of t e - 1)) (edge t e) chain ends_later all_reach j i (edge t d) (omega arith) at_j at_i (tie ∙ common)
              | inr apart ↦ cond-false (hi_of t d == hi_of t e) (lower_of t d e) (is_above (edge t d) (edge t e).hi) apart ∙ ends_not_above (map (edge t) es) (corner t (hi_of t e - 1)) (edge t e) chain ends_later all_reach j i (edge t d) (omega arith) at_j at_i (tie ∙ apart)
            ]
          ]

  -- so the search ends at it
  pub found_by_end : is_in e es ≡ true → (place : ℕ) → IsSearchEnd (is_passed t (End e)) es place → slice_get es place ≡ Some e
  found_by_end listed place end =
      let member = member_place es e listed in
      subst (λ k. slice_get es k ≡ Some e) (sym (ends_there (is_passed t (End e)) es member.0 place (slice_get_within es member.0 e member.1) (parted_by_end member.0 member.1) end)) member.1

-- ---- a corner
-- in a chain at a corner, no edge from the end of its search on has it above
pub none_above_later : (t : Table) (c : ℕ) (es : List ℕ) → is_chain_at t c es ≡ true → (place : ℕ) → IsSearchEnd (is_passed t (Corner c)) es place → (i : ℕ) → place ≤ i → i < length es → is_above (edge t (get_or es i 0)) (corner t c) ≡ false
none_above_later t c es chain place end i more fits = elim (cases_eq place i) [
  | inl same ↦ subst (λ k. is_above (edge t (get_or es k 0)) (corner t c) ≡ false) same (end.reached (omega arith))
  | inr other ↦ false_from_ne_true (is_above (edge t (get_or es i 0)) (corner t c)) (λ above.
      (let d = edge t (get_or es place 0) in
      let a = edge t (get_or es i 0) in
      elim (or_cases (is_above d (corner t c)) (same_point (corner t c) d.lo && same_point (corner t c) a.lo) (chain_above (map (edge t) es) (corner t c) chain place i d a (omega arith) (edge_at t es place (omega arith)) (edge_at t es i fits) (above-not_below a (corner t c) above))) [
        | inl lower_above ↦ both_ways (is_above d (corner t c)) (end.reached (omega arith)) lower_above
        | inr common ↦ both_ways (same_point (corner t c) a.lo) (above-not_low a (corner t c) above) (and_parts (same_point (corner t c) d.lo) (same_point (corner t c) a.lo) common).1
      ]))
]
