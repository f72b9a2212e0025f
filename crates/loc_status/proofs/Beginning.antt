-- How the edges of a chain stand to an edge that begins there, by the end that decides.
use Rattle.std.proofs.Common.{◌≡◌, ℕ, zero, suc, ◌<◌, Bool, true, false, not, ◌&&◌, List, [], ◌∷◌, refl, sym, ◌∙◌, ap, subst, inl, inr, arith, pos, ◌-ℤ◌, ◌<ℤ◌, Some, slice_get}
use Rattle.std.specs.List.{list_all}
use Rattle.std.proofs.lemmas.Int.{ints}
use Rattle.std.proofs.lemmas.Bool.{and_parts, and_from, or_cases, both_ways, cases_Bool, cases_eq, cond-true, cond-false, not-true, not_from_false, false_from_ne_true, true_from_ne_false}
use Rattle.loc_spec_plane.specs.Points.{Point, Edge, turn, before, up_to, same_point, is_above, is_below, conflict}
use Rattle.loc_spec_plane.specs.Places.{alive, lower, neighbours_rise, is_chain}
use Rattle.loc_edges.specs.Placing.{deciding_end}
use Rattle.loc_laws_order.proofs.Forms.{side_of, Touch, Cross, Conflict, LiesInside}
use Rattle.loc_laws_order.proofs.{Pair.side_lo, ChainLaws.chain_above}
use Rattle.loc_laws_order.proofs.Sides.{before_decides, before_irrefl, before-differ, above_decides, below_decides, above-not_below, on-not_above, on-not_below, low_is_on, same_point-true, same_point_sym, same-from_neither, turn_swap, lower_common}
use Rattle.loc_laws_order.proofs.Tests.{all-get, chain-is, conflict-is, is_above_decides, is_below_decides, lower_decides, same_point_decides}
use Rattle.loc_laws_order.proofs.ChainLaws as ChainLaws
use Rattle.loc_status.specs.Targets.{begins_above}

-- b begins below a, by the end that decides
abbrev pub begins_below : Edge → Edge → Bool
begins_below a b = is_below a (deciding_end a b)

-- a point below or on an edge is not above it
pub below-not_above : (e : Edge) (p : Point) → is_below e p ≡ true → is_above e p ≡ false
below-not_above e p below = false_from_ne_true (is_above e p) (λ above. both_ways (is_below e p) (above-not_below e p above) below)

-- which end decides
pub common_end : (a b : Edge) → same_point a.lo b.lo ≡ true → deciding_end a b ≡ b.hi
common_end a b common = cond-true (same_point a.lo b.lo) b.hi b.lo common

pub other_end : (a b : Edge) → same_point a.lo b.lo ≡ false → deciding_end a b ≡ b.lo
other_end a b apart = cond-false (same_point a.lo b.lo) b.hi b.lo apart

-- where a is alive at b's lower end, a is lower than b exactly where b begins above it
pub lower_is : (a b : Edge) → alive a b.lo ≡ true → lower a b ≡ begins_above a b
lower_is a b live = elim (cases_Bool (before a.lo b.lo)) [
  | inl first ↦ cond-true (before a.lo b.lo) _ _ first ∙ ap (λ p. is_above a p) (sym (other_end a b (before-differ a.lo b.lo first)))
  | inr not_first ↦ (let not_second : before b.lo a.lo ≡ false = not-true (before b.lo a.lo) (and_parts (up_to a.lo b.lo) (before b.lo a.hi) live).0 in
      let same : a.lo ≡ b.lo = same-from_neither a.lo b.lo (λ k. both_ways (before a.lo b.lo) not_first ((before_decides a.lo b.lo).1 k)) (λ k. both_ways (before b.lo a.lo) not_second ((before_decides b.lo a.lo).1 k)) in
      lower_common a b same ∙ ap (λ p. is_above a p) (sym (common_end a b ((same_point_decides a.lo b.lo).1 same))))
]

-- ---- two edges that begin at one point: the side of the one's upper end is the opposite of the other's
opposite : (a b : Edge) → a.lo ≡ b.lo → turn b.lo b.hi a.hi ≡ pos 0 -ℤ turn a.lo a.hi b.hi
opposite a b same = turn_swap b.lo b.hi a.hi ∙ ap (λ l. pos 0 -ℤ turn l a.hi b.hi) (sym same)

above_to_below : (a b : Edge) → a.lo ≡ b.lo → is_above a b.hi ≡ true → is_below b a.hi ≡ true
above_to_below a b same h = (below_decides b a.hi).1 (let side : pos 0 <ℤ turn a.lo a.hi b.hi = (above_decides a b.hi).0 h in omega (arith, ints, opposite a b same))

-- and below the other way round
pub below_to_above : (a b : Edge) → a.lo ≡ b.lo → is_below a b.hi ≡ true → is_above b a.hi ≡ true
below_to_above a b same h = (above_decides b a.hi).1 (let side : turn a.lo a.hi b.hi <ℤ pos 0 = (below_decides a b.hi).0 h in omega (arith, ints, opposite a b same))

-- they do not conflict where their directions differ
never_meet : (a b : Edge) → a.lo ≡ b.lo → is_above a b.hi ≡ true → is_below b a.hi ≡ true → Conflict a b → ⊥
unfolding Conflict Touch Cross LiesInside
never_meet a b same above below meet =
    let up = (is_above_decides a b.hi).0 above in
    let down = (is_below_decides b a.hi).0 below in
    elim meet [
      | inl touch ↦ elim touch [
        | inl on_a ↦ elim on_a [ inl low ↦ low.1 (inl (sym same)) | inr high ↦ omega (arith, ints, high.0.0, up) ]
        | inr on_b ↦ elim on_b [ inl low ↦ low.1 (inl same) | inr high ↦ omega (arith, ints, high.0.0, down) ]
      ]
      | inr cross ↦ (let level : side_of a b.lo ≡ pos 0 = subst (λ p. side_of a p ≡ pos 0) same (side_lo a) in
          elim cross.0 [ inl u ↦ omega (arith, ints, level, u.0) | inr u ↦ omega (arith, ints, level, u.0) ])
    ]

no_conflict : (a b : Edge) → a.lo ≡ b.lo → is_above a b.hi ≡ true → is_below b a.hi ≡ true → conflict a b ≡ false
no_conflict a b same above below = false_from_ne_true (conflict a b) (λ h. never_meet a b same above below (conflict-is a b h))

-- ---- chains
-- an edge of a chain is alive there
pub chain_alive : (es : List Edge) (p : Point) → is_chain p es ≡ true → (i : ℕ) (e : Edge) → slice_get es i ≡ Some e → alive e p ≡ true
chain_alive es p chain i e at = all-get (λ (e : Edge). alive e p) es i e (and_parts (list_all (λ (e : Edge). alive e p) es) (neighbours_rise es) chain).0 at

chain_tail : (e : Edge) (es : List Edge) (p : Point) → is_chain p (e ∷ es) ≡ true → is_chain p es ≡ true
chain_tail e [] p chain = refl
chain_tail e (d ∷ es) p chain =
    let parts = and_parts (alive e p && list_all (λ (e : Edge). alive e p) (d ∷ es)) ((lower e d && not (conflict e d)) && neighbours_rise (d ∷ es)) chain in
    and_from (list_all (λ (e : Edge). alive e p) (d ∷ es)) (neighbours_rise (d ∷ es))
    (and_parts (alive e p) (list_all (λ (e : Edge). alive e p) (d ∷ es)) parts.0).1
    (and_parts (lower e d && not (conflict e d)) (neighbours_rise (d ∷ es)) parts.1).1

-- an earlier member of a list
earlier_member : (es : List Edge) (i j : ℕ) (e : Edge) → i < j → slice_get es j ≡ Some e → (d : Edge) × (slice_get es i ≡ Some d)
earlier_member [] i j e less at = absurd cc
earlier_member (d ∷ es) zero j e less at = (d, refl)
earlier_member (d ∷ es) (suc i) zero e less at = absurd (omega arith)
earlier_member (d ∷ es) (suc i) (suc j) e less at = earlier_member es i j e (omega arith) at

-- each edge before one that begins there is lower: its neighbour is, and so are those before
begin_lower : (es : List Edge) (e : Edge) → is_chain e.lo es ≡ true → (i j : ℕ) (d : Edge) → i < j → slice_get es i ≡ Some d → slice_get es j ≡ Some e → lower d e ≡ true
begin_lower es e chain i zero d less at_i at_j = absurd (omega arith)
begin_lower es e chain i (suc j) d less at_i at_j =
    let facts = chain-is e.lo es chain in
    elim (cases_eq i j) [
      | inl same ↦ (lower_decides d e).1 (facts.1 j d e (subst (λ k. slice_get es k ≡ Some d) same at_i) at_j).1
      | inr other ↦ (let near = earlier_member es j (suc j) e (omega arith) at_j in
          ChainLaws.lower_before es e ((before_decides e.lo e.hi).1 (facts.0 (suc j) e at_j).0) chain i j d near.0 (omega arith) at_i near.1 ((lower_decides near.0 e).1 (facts.1 j near.0 e near.1 at_j).1))
    ]

-- an edge b that begins there begins below each edge behind it
pub begins_below_later : (es : List Edge) (b : Edge) → is_chain b.lo es ≡ true → (i j : ℕ) (a : Edge) → i < j → slice_get es i ≡ Some b → slice_get es j ≡ Some a → begins_below a b ≡ true
begins_below_later es b chain i j a less at_i at_j = elim (cases_Bool (same_point a.lo b.lo)) [
  | inl common ↦ (let same : a.lo ≡ b.lo = same_point-true a.lo b.lo common in
      let low = begin_lower es a (subst (λ p. is_chain p es ≡ true) (sym same) chain) i j b less at_i at_j in
      subst (λ p. is_below a p ≡ true) (sym (common_end a b common)) (above_to_below b a (sym same) (sym (lower_common b a (sym same)) ∙ low)))
  | inr apart ↦ subst (λ p. is_below a p ≡ true) (sym (other_end a b apart)) (true_from_ne_false (is_below a b.lo) (λ side.
      elim (or_cases (is_above b b.lo) (same_point b.lo b.lo && same_point b.lo a.lo) (chain_above es b.lo chain i j b a less at_i at_j side)) [
        | inl above ↦ both_ways (is_above b b.lo) (on-not_above b b.lo (low_is_on b)) above
        | inr begin ↦ both_ways (same_point b.lo a.lo) (same_point_sym b.lo a.lo apart) (and_parts (same_point b.lo b.lo) (same_point b.lo a.lo) begin).1
      ]))
]

-- ---- a new edge b in a chain at its lower end
-- where it begins above an edge, it does so above each earlier one
pub above_passes_down : (es : List Edge) (b : Edge) → before b.lo b.hi ≡ true → is_chain b.lo es ≡ true → (i j : ℕ) (d a : Edge) → i < j → slice_get es i ≡ Some d → slice_get es j ≡ Some a → begins_above a b ≡ true → begins_above d b ≡ true
above_passes_down es b up chain i j d a less at_i at_j above =
    sym (lower_is d b (chain_alive es b.lo chain i d at_i)) ∙ ChainLaws.lower_before es b up chain i j d a less at_i at_j (lower_is a b (chain_alive es b.lo chain j a at_j) ∙ above)

-- b before a chain whose first edge it begins below, where both begin at one point
put_below : (d b : Edge) (es : List Edge) → before b.lo b.hi ≡ true → d.lo ≡ b.lo → is_below d b.hi ≡ true → is_chain b.lo (d ∷ es) ≡ true → is_chain b.lo (b ∷ d ∷ es) ≡ true
put_below d b es up same below chain =
    let above : is_above b d.hi ≡ true = below_to_above d b same below in
    let parts = and_parts (list_all (λ (e : Edge). alive e b.lo) (d ∷ es)) (neighbours_rise (d ∷ es)) chain in
    and_from (alive b b.lo && list_all (λ (e : Edge). alive e b.lo) (d ∷ es)) ((lower b d && not (conflict b d)) && neighbours_rise (d ∷ es))
    (and_from (alive b b.lo) (list_all (λ (e : Edge). alive e b.lo) (d ∷ es)) (and_from (up_to b.lo b.lo) (before b.lo b.hi) (not_from_false (before b.lo b.lo) (before_irrefl b.lo)) up) parts.0)
    (and_from (lower b d && not (conflict b d)) (neighbours_rise (d ∷ es))
    (and_from (lower b d) (not (conflict b d)) (lower_common b d (sym same) ∙ above) (not_from_false (conflict b d) (no_conflict b d (sym same) above below)))
    parts.1)

-- an edge that has b's lower end below it does not begin there
below-apart : (a b : Edge) → is_below a b.lo ≡ true → same_point a.lo b.lo ≡ false
below-apart a b below = false_from_ne_true (same_point a.lo b.lo) (λ common. both_ways (is_below a b.lo) (subst (λ p. is_below a p ≡ false) (same_point-true a.lo b.lo common) (on-not_below a a.lo (low_is_on a))) below)

below_first : (d : Edge) (es : List Edge) (b a : Edge) → before b.lo b.hi ≡ true → is_chain b.lo (d ∷ es) ≡ true → (j : ℕ) → slice_get es j ≡ Some a → begins_below d b ≡ true → begins_below a b ≡ true
below_first d es b a up chain j at_j below = elim (cases_Bool (same_point d.lo b.lo)) [
  | inl common ↦ begins_below_later (b ∷ d ∷ es) b (put_below d b es up (same_point-true d.lo b.lo common) (subst (λ p. is_below d p ≡ true) (common_end d b common) below) chain) 0 (suc (suc j)) a (omega arith) refl at_j
  | inr apart ↦ (let under : is_below d b.lo ≡ true = subst (λ p. is_below d p ≡ true) (other_end d b apart) below in
      let low : is_below a b.lo ≡ true = true_from_ne_false (is_below a b.lo) (λ side.
      elim (or_cases (is_above d b.lo) (same_point b.lo d.lo && same_point b.lo a.lo) (chain_above (d ∷ es) b.lo chain 0 (suc j) d a (omega arith) refl at_j side)) [
        | inl above ↦ both_ways (is_above d b.lo) (below-not_above d b.lo under) above
        | inr begin ↦ both_ways (same_point b.lo d.lo) (same_point_sym b.lo d.lo apart) (and_parts (same_point b.lo d.lo) (same_point b.lo a.lo) begin).0
      ]) in
      subst (λ p. is_below a p ≡ true) (sym (other_end a b (below-apart a b low))) low)
]

-- where it begins below an edge, it does so below each later one
pub below_passes_up : (es : List Edge) (b : Edge) → before b.lo b.hi ≡ true → is_chain b.lo es ≡ true → (i j : ℕ) (d a : Edge) → i < j → slice_get es i ≡ Some d → slice_get es j ≡ Some a → begins_below d b ≡ true → begins_below a b ≡ true
below_passes_up [] b up chain i j d a less at_i at_j below = absurd cc
below_passes_up (e ∷ es) b up chain i zero d a less at_i at_j below = absurd (omega arith)
below_passes_up (e ∷ es) b up chain zero (suc j) d a less at_i at_j below = let same : d ≡ e = cc in below_first e es b a up chain j at_j (subst (λ k. begins_below k b ≡ true) same below)
below_passes_up (e ∷ es) b up chain (suc i) (suc j) d a less at_i at_j below = below_passes_up es b up (chain_tail e es b.lo chain) i j d a (omega arith) at_i at_j below
