-- How a chain of edges changes where an edge is taken out or put in: it stays a chain where the edges that come to stand side by side do not conflict.
use Rattle.std.proofs.Common.{◌≡◌, ℕ, zero, suc, ◌+◌, ◌<◌, Bool, true, false, not, ◌&&◌, ◌||◌, List, [], ◌∷◌, ◌++◌, length, map, refl, sym, ◌∙◌, ap, ap₂, subst, inl, inr, arith, Option, Some, None, slice_get}
use Rattle.std.specs.Prelude.{◌==◌}
use Rattle.std.specs.List.{All, list_all, last_or}
use Rattle.std.proofs.lemmas.Bool.{and_parts, and_from, or_parts, or_left, or_right, both_ways, cases_Bool, cond-true, cond-false, eq-eqb, eqb-true, not-true, not_from_false, false_from_ne_true}
use Rattle.std.proofs.lemmas.List.{append_assoc, get_or_append_left, get_or-append-add, length-append, map-append}
use Rattle.std.proofs.lemmas.List.Elements.{All-append, All-cons, All-from_get_or, All-get_or, All-same}
use Rattle.std.proofs.{Math.Seq.get_or-append_seam, lemmas.Option.slice_get_within, lemmas.Option.get_or_from_slice_get}
use Rattle.std.proofs.lemmas.List.Folds.{list_all-append, list_any-append}
use Rattle.loc_spec_plane.specs.Lists.{is_in}
use Rattle.loc_spec_plane.specs.Points.{Point, Edge, before, up_to, same_point, same_edge, is_below, conflict}
use Rattle.loc_spec_plane.specs.Tables.{Table, IsTable, corner, edge, lo_of}
use Rattle.loc_spec_plane.specs.Places.{alive, lower, neighbours_rise, is_chain}
use Rattle.loc_laws_order.proofs.{Sets.number_swap, Tests.same_edge_decides, TableOrder.edge_up, ListLaws.get-map}
use Rattle.loc_laws_order.proofs.Sides.{before_either, same_point_sym, before_irrefl, same_point-true, lower_common}
use Rattle.loc_laws_order.proofs.ChainLaws.{chain_differ, chain_lower}
use Rattle.loc_status.specs.declared.status.Beside.{Beside}
use Rattle.loc_status.specs.Lists.{is_chain_at, GoesAbove, GoesBelow, IsBeside, IsInserted, IsRemoved, IsNextBelow, IsNextAbove}
use Rattle.loc_edges.specs.declared.ranks.Placing.TheVariants.{Below, Above}
use Rattle.loc_edges.specs.Placing.{IsPlacing}
use Rattle.loc_status.proofs.{Ends.at_seam, Ends.member_place, Standing.chain_in_range}
use Rattle.loc_status.proofs.Beginning.{common_end, other_end, lower_is, below_to_above, chain_alive}
use Rattle.loc_sweep.specs.Line.{AreApart, IsInRange}

-- ---- a list in two parts
pub in_between : (e : ℕ) (front back : List ℕ) → is_in e (front ++ e ∷ back) ≡ true
in_between e [] back = or_left (e == e) (is_in e back) (eq-eqb e e refl)
in_between e (d ∷ front) back = or_right (d == e) (is_in e (front ++ e ∷ back)) (in_between e front back)

at_front : (front rest : List ℕ) (i d : ℕ) → slice_get front i ≡ Some d → slice_get (front ++ rest) i ≡ Some d
at_front [] rest i d at = absurd cc
at_front (a ∷ front) rest zero d at = at
at_front (a ∷ front) rest (suc i) d at = at_front front rest i d at

further : (front back : List ℕ) (e i : ℕ) → slice_get (front ++ e ∷ back) (suc (length front + i)) ≡ slice_get back i
further [] back e i = let none : suc (length {A = ℕ} [] + i) ≡ suc i = omega arith in ap (λ k. slice_get (e ∷ back) k) none
further (d ∷ front) back e i = let one_more : suc (length (d ∷ front) + i) ≡ suc (suc (length front + i)) = omega arith in ap (λ k. slice_get (d ∷ front ++ e ∷ back) k) one_more ∙ further front back e i

last_place : (front : List ℕ) (d : ℕ) → last_or None front ≡ Some d → (i : ℕ) × (slice_get front i ≡ Some d)
last_place [] d last = absurd cc
last_place (a ∷ []) d last = (0, last)
last_place (a ∷ b ∷ front) d last = let found = last_place (b ∷ front) d last in (suc found.0, found.1)

last_or-push : (o : Option ℕ) (front : List ℕ) (d : ℕ) → last_or o (front ++ d ∷ []) ≡ Some d
last_or-push o [] d = refl
last_or-push o (a ∷ front) d = last_or-push (Some a) front d

-- the two parts beside a number that stands once are determined
same_parts : (e : ℕ) (front back before_it behind_it : List ℕ) → is_in e front ≡ false → is_in e back ≡ false → front ++ e ∷ back ≡ before_it ++ e ∷ behind_it → (front ≡ before_it) × (back ≡ behind_it)
same_parts e [] back [] behind_it off_front off_back same = (refl, cc)
same_parts e [] back (d ∷ before_it) behind_it off_front off_back same = absurd
    (let rest : back ≡ before_it ++ e ∷ behind_it = cc in
    both_ways (is_in e back) off_back (subst (λ es. is_in e es ≡ true) (sym rest) (in_between e before_it behind_it)))
same_parts e (d ∷ front) back [] behind_it off_front off_back same = absurd
    (let first : d ≡ e = cc in
    both_ways (d == e) (or_parts (d == e) (is_in e front) off_front).0 (eq-eqb d e first))
same_parts e (d ∷ front) back (a ∷ before_it) behind_it off_front off_back same =
    let first : d ≡ a = cc in
    let rest : front ++ e ∷ back ≡ before_it ++ e ∷ behind_it = cc in
    let parts = same_parts e front back before_it behind_it (or_parts (d == e) (is_in e front) off_front).1 off_back rest in
    (ap (λ k. k ∷ front) first ∙ ap (λ ds. a ∷ ds) parts.0, parts.1)

module _ (e : ℕ) (es front back : List ℕ) (parts : es ≡ front ++ e ∷ back) (off_front : is_in e front ≡ false) (off_back : is_in e back ≡ false) where
  -- so the neighbours are the last before it and the first behind it
  pub below_is : (below : Option ℕ) → IsNextBelow e es below → last_or None front ≡ below
  below_is None next = ap (λ ds. last_or None ds) (same_parts e front back [] next.0 off_front off_back (sym parts ∙ next.1)).0
  below_is (Some d) next =
      ap (λ ds. last_or None ds) (same_parts e front back (next.0 ++ d ∷ []) next.1 off_front off_back (sym parts ∙ (next.2 ∙ sym (append_assoc next.0 (d ∷ []) (e ∷ next.1))))).0
      ∙ last_or-push None next.0 d

  above_is : (above : Option ℕ) → IsNextAbove e es above → slice_get back 0 ≡ above
  above_is None next = ap (λ ds. slice_get ds 0) (same_parts e front back next.0 [] off_front off_back (sym parts ∙ next.1)).1
  above_is (Some a) next = ap (λ ds. slice_get ds 0) (same_parts e front back next.0 (a ∷ next.1) off_front off_back (sym parts ∙ next.2)).1

-- ---- members
-- the members of a list without a number that stands once, and of a list with a new one
members_without : (front back : List ℕ) (e n : ℕ) → is_in e front ≡ false → is_in e back ≡ false → is_in n (front ++ back) ≡ (is_in n (front ++ e ∷ back) && not (n == e))
members_without front back e n off_front off_back =
    list_any-append (λ m. m == n) front back
    ∙ (by_number (is_in n front) (is_in n back) (e == n)
    (λ same. subst (λ k. is_in k front ≡ false) (eqb-true e n same) off_front)
    (λ same. subst (λ k. is_in k back ≡ false) (eqb-true e n same) off_back)
    ∙ ap₂ (λ x y. x && not y) (sym (list_any-append (λ m. m == n) front (e ∷ back))) (number_swap e n))
  where
    by_number : (x y same : Bool) → (same ≡ true → x ≡ false) → (same ≡ true → y ≡ false) → (x || y) ≡ ((x || (same || y)) && not same)
    by_number x y true off_x off_y = rw (off_x refl, off_y refl) refl
    by_number true y false off_x off_y = refl
    by_number false true false off_x off_y = refl
    by_number false false false off_x off_y = refl

members_with : (front back : List ℕ) (e n : ℕ) → is_in n (front ++ e ∷ back) ≡ (is_in n (front ++ back) || (n == e))
members_with front back e n =
    list_any-append (λ m. m == n) front (e ∷ back)
    ∙ (by_number (is_in n front) (is_in n back) (e == n)
    ∙ ap₂ (λ x y. x || y) (sym (list_any-append (λ m. m == n) front back)) (number_swap e n))
  where
    by_number : (x y same : Bool) → (x || (same || y)) ≡ ((x || y) || same)
    by_number true y same = refl
    by_number false true true = refl
    by_number false true false = refl
    by_number false false true = refl
    by_number false false false = refl

-- ---- a chain in two parts
module _ (t : Table) where
  abbrev rises : List ℕ → Bool
  rises es = neighbours_rise (map (edge t) es)

  -- the one may stand right before the other, where there are both
  abbrev stands_before : Option ℕ → Option ℕ → Bool
  stands_before None b = true
  stands_before (Some a) None = true
  stands_before (Some a) (Some b) = lower (edge t a) (edge t b) && not (conflict (edge t a) (edge t b))

  rises_joined : (front back : List ℕ) → rises front ≡ true → rises back ≡ true → stands_before (last_or None front) (slice_get back 0) ≡ true → rises (front ++ back) ≡ true
  rises_joined [] back rise_front rise_back seam = rise_back
  rises_joined (a ∷ []) [] rise_front rise_back seam = refl
  rises_joined (a ∷ []) (b ∷ back) rise_front rise_back seam = and_from (stands_before (Some a) (Some b)) (rises (b ∷ back)) seam rise_back
  rises_joined (a ∷ b ∷ front) back rise_front rise_back seam =
      let parts = and_parts (stands_before (Some a) (Some b)) (rises (b ∷ front)) rise_front in
      and_from (stands_before (Some a) (Some b)) (rises (b ∷ front ++ back)) parts.0 (rises_joined (b ∷ front) back parts.1 rise_back seam)

  rises_parts : (front back : List ℕ) → rises (front ++ back) ≡ true → (rises front ≡ true) × (rises back ≡ true)
  rises_parts [] back rise = (refl, rise)
  rises_parts (a ∷ []) [] rise = (refl, refl)
  rises_parts (a ∷ []) (b ∷ back) rise = (refl, (and_parts (stands_before (Some a) (Some b)) (rises (b ∷ back)) rise).1)
  rises_parts (a ∷ b ∷ front) back rise =
      let parts = and_parts (stands_before (Some a) (Some b)) (rises (b ∷ front ++ back)) rise in
      let later = rises_parts (b ∷ front) back parts.1 in
      (and_from (stands_before (Some a) (Some b)) (rises (b ∷ front)) parts.0 later.0, later.1)

  module _ (p : Point) where
    abbrev are_alive : List ℕ → Bool
    are_alive es = list_all (λ (e : Edge). alive e p) (map (edge t) es)

    alive_parts : (front back : List ℕ) → are_alive (front ++ back) ≡ (are_alive front && are_alive back)
    alive_parts front back = ap (λ (es : List Edge). list_all (λ (e : Edge). alive e p) es) (map-append (edge t) front back) ∙ list_all-append (λ (e : Edge). alive e p) (map (edge t) front) (map (edge t) back)

    -- two chains make one where the seam rises
    chain_joined : (front back : List ℕ) → is_chain p (map (edge t) front) ≡ true → is_chain p (map (edge t) back) ≡ true → stands_before (last_or None front) (slice_get back 0) ≡ true → is_chain p (map (edge t) (front ++ back)) ≡ true
    chain_joined front back chain_front chain_back seam =
        let first = and_parts (are_alive front) (rises front) chain_front in
        let second = and_parts (are_alive back) (rises back) chain_back in
        and_from (are_alive (front ++ back)) (rises (front ++ back))
        (alive_parts front back ∙ and_from (are_alive front) (are_alive back) first.0 second.0)
        (rises_joined front back first.1 second.1 seam)

    chain_parts : (front back : List ℕ) → is_chain p (map (edge t) (front ++ back)) ≡ true → (is_chain p (map (edge t) front) ≡ true) × (is_chain p (map (edge t) back) ≡ true)
    chain_parts front back chain =
        let both = and_parts (are_alive (front ++ back)) (rises (front ++ back)) chain in
        let live = and_parts (are_alive front) (are_alive back) (sym (alive_parts front back) ∙ both.0) in
        let rise = rises_parts front back both.1 in
        (and_from (are_alive front) (rises front) live.0 rise.0, and_from (are_alive back) (rises back) live.1 rise.1)

    -- an edge stands in a chain once
    module _ (front back : List ℕ) (e : ℕ) (chain : is_chain p (map (edge t) (front ++ e ∷ back)) ≡ true) where
      never_twice : (i j : ℕ) → i < j → slice_get (front ++ e ∷ back) i ≡ Some e → slice_get (front ++ e ∷ back) j ≡ Some e → ⊥
      never_twice i j less at_i at_j = both_ways (same_edge (edge t e) (edge t e))
          (chain_differ (map (edge t) (front ++ e ∷ back)) p chain i j (edge t e) (edge t e) less (get-map (edge t) (front ++ e ∷ back) i e at_i) (get-map (edge t) (front ++ e ∷ back) j e at_j))
          ((same_edge_decides (edge t e) (edge t e)).1 refl)

      pub stands_once : (is_in e front ≡ false) × (is_in e back ≡ false)
      stands_once = (
        false_from_ne_true (is_in e front) (λ listed. (let member = member_place front e listed in
            never_twice member.0 (length front) (slice_get_within front member.0 e member.1) (at_front front (e ∷ back) member.0 e member.1) (at_seam front (e ∷ back)))),
        false_from_ne_true (is_in e back) (λ listed. (let member = member_place back e listed in
            never_twice (length front) (suc (length front + member.0)) (omega arith) (at_seam front (e ∷ back)) (further front back e member.0 ∙ member.1))),
      )

      -- the one before it is lower than the one behind it, where they do not conflict
      over_it : (below above : Option ℕ) → last_or None front ≡ below → slice_get back 0 ≡ above → AreApart t below above → stands_before below above ≡ true
      over_it None above last first apart = refl
      over_it (Some d) None last first apart = refl
      over_it (Some d) (Some a) last first apart =
          let found = last_place front d last in
          and_from (lower (edge t d) (edge t a)) (not (conflict (edge t d) (edge t a)))
          (chain_lower (map (edge t) (front ++ e ∷ back)) p chain found.0 (suc (length front + 0)) (edge t d) (edge t a) (omega (arith, slice_get_within front found.0 d found.1)) (get-map (edge t) (front ++ e ∷ back) found.0 d (at_front front (e ∷ back) found.0 d found.1)) (get-map (edge t) (front ++ e ∷ back) (suc (length front + 0)) a (further front back e 0 ∙ first)) (not-true (conflict (edge t d) (edge t a)) apart))
          apart

-- a chain without one of its edges is a chain, where the two that come to stand side by side do not conflict
pub removed : (t : Table) (c e : ℕ) (es new : List ℕ) (beside : Beside) → is_chain_at t c es ≡ true → IsBeside e es beside → IsRemoved e es new → AreApart t beside.below beside.above → (is_chain_at t c new ≡ true) × ((n : ℕ) → is_in n new ≡ (is_in n es && not (n == e)))
removed t c e es new beside chain stands gone apart =
    let front = gone.front in
    let back = gone.back in
    let whole : is_chain_at t c (front ++ e ∷ back) ≡ true = subst (λ ds. is_chain_at t c ds ≡ true) gone.old_is chain in
    let once = stands_once t (corner t c) front back e whole in
    let last = below_is e es front back gone.old_is once.0 once.1 beside.below stands.below in
    let first = above_is e es front back gone.old_is once.0 once.1 beside.above stands.above in
    let parts = chain_parts t (corner t c) front (e ∷ back) whole in
    let behind_it = chain_parts t (corner t c) (e ∷ []) back parts.1 in
    let seam : stands_before t (last_or None front) (slice_get back 0) ≡ true = subst (λ o. stands_before t o (slice_get back 0) ≡ true) (sym last) (subst (λ o. stands_before t beside.below o ≡ true) (sym first) (over_it t (corner t c) front back e whole beside.below beside.above last first apart)) in (
      subst (λ ds. is_chain_at t c ds ≡ true) (sym gone.new_is) (chain_joined t (corner t c) front back parts.0 behind_it.1 seam),
      λ n. ap (λ ds. is_in n ds) gone.new_is ∙ (members_without front back e n once.0 once.1 ∙ ap (λ ds. is_in n ds && not (n == e)) (sym gone.old_is)),
    )

-- ---- an edge that comes
-- of two edges the one is alive where the other, e, begins: it is lower where e stands above it, and e is where e stands below it
lower_by_above : (d e : Edge) → alive d e.lo ≡ true → IsPlacing d e Above → lower d e ≡ true
lower_by_above d e live placing = lower_is d e live ∙ placing.1

lower_by_below : (e a : Edge) → alive a e.lo ≡ true → IsPlacing a e Below → lower e a ≡ true
lower_by_below e a live placing = elim (cases_Bool (same_point a.lo e.lo)) [
  | inl common ↦ (let same = same_point-true a.lo e.lo common in
      lower_common e a (sym same) ∙ below_to_above a e same (subst (λ p. is_below a p ≡ true) (common_end a e common) placing.1))
  | inr apart ↦ (let not_first : before e.lo a.lo ≡ false = not-true (before e.lo a.lo) (and_parts (up_to a.lo e.lo) (before e.lo a.hi) live).0 in
      let second : before a.lo e.lo ≡ true = before_either e.lo a.lo (same_point_sym e.lo a.lo apart) not_first in
      cond-false (before e.lo a.lo) _ _ not_first ∙ (cond-true (before a.lo e.lo) _ _ second ∙ subst (λ p. is_below a p ≡ true) (other_end a e apart) placing.1))
]

alive_there : (t : Table) (p : Point) (es : List ℕ) → is_chain p (map (edge t) es) ≡ true → (i a : ℕ) → slice_get es i ≡ Some a → alive (edge t a) p ≡ true
alive_there t p es chain i a at = chain_alive (map (edge t) es) p chain i (edge t a) (get-map (edge t) es i a at)

module _ (t : Table) (ok : IsTable t) (e : ℕ) (fits : e < length t.ends) (front back : List ℕ) (chain : is_chain (edge t e).lo (map (edge t) (front ++ back)) ≡ true) where
  -- the edge alone is a chain where it begins
  alone : is_chain (edge t e).lo (map (edge t) (e ∷ [])) ≡ true
  alone = and_from (alive (edge t e) (edge t e).lo && true) true
      (and_from (alive (edge t e) (edge t e).lo) true (and_from (up_to (edge t e).lo (edge t e).lo) (before (edge t e).lo (edge t e).hi) (not_from_false (before (edge t e).lo (edge t e).lo) (before_irrefl (edge t e).lo)) (edge_up t ok e fits)) refl)
      refl

  seam_below : (below : Option ℕ) → last_or None front ≡ below → GoesAbove t e front → AreApart t below (Some e) → stands_before t below (Some e) ≡ true
  seam_below None last behind apart = refl
  seam_below (Some d) last behind apart =
      let found = last_place front d last in
      let placing = subst (λ a. IsPlacing (edge t a) (edge t e) Above) (get_or_from_slice_get front found.0 d 0 found.1) (All-get_or (λ a. IsPlacing (edge t a) (edge t e) Above) front found.0 0 (slice_get_within front found.0 d found.1) behind) in
      and_from (lower (edge t d) (edge t e)) (not (conflict (edge t d) (edge t e))) (lower_by_above (edge t d) (edge t e) (alive_there t (edge t e).lo (front ++ back) chain found.0 d (at_front front back found.0 d found.1)) placing) apart

  seam_above : (above : Option ℕ) → slice_get back 0 ≡ above → GoesBelow t e back → AreApart t (Some e) above → stands_before t (Some e) above ≡ true
  seam_above None first ahead apart = refl
  seam_above (Some a) first ahead apart =
      let placing = subst (λ a. IsPlacing (edge t a) (edge t e) Below) (get_or_from_slice_get back 0 a 0 first) (All-get_or (λ a. IsPlacing (edge t a) (edge t e) Below) back 0 0 (slice_get_within back 0 a first) ahead) in
      and_from (lower (edge t e) (edge t a)) (not (conflict (edge t e) (edge t a))) (lower_by_below (edge t e) (edge t a) (alive_there t (edge t e).lo (front ++ back) chain (length front) a (at_seam front back ∙ first)) placing) apart

  chain_with : (below above : Option ℕ) → last_or None front ≡ below → slice_get back 0 ≡ above → GoesAbove t e front → GoesBelow t e back → AreApart t below (Some e) → AreApart t (Some e) above → is_chain (edge t e).lo (map (edge t) (front ++ e ∷ back)) ≡ true
  chain_with below above last first behind ahead apart_below apart_above =
      let parts = chain_parts t (edge t e).lo front back chain in
      let from_e : is_chain (edge t e).lo (map (edge t) (e ∷ back)) ≡ true = chain_joined t (edge t e).lo (e ∷ []) back alone parts.1 (subst (λ o. stands_before t (Some e) o ≡ true) (sym first) (seam_above above first ahead apart_above)) in
      chain_joined t (edge t e).lo front (e ∷ back) parts.0 from_e (subst (λ o. stands_before t o (Some e) ≡ true) (sym last) (seam_below below last behind apart_below))

-- a new edge is in no part of the list
pub nowhere : (t : Table) (e : ℕ) (es new : List ℕ) → is_in e es ≡ false → (come : IsInserted t e es new) → (is_in e come.front ≡ false) × (is_in e come.back ≡ false)
nowhere t e es new off come = or_parts (is_in e come.front) (is_in e come.back) (sym (list_any-append (λ m. m == e) come.front come.back) ∙ (ap (λ ds. is_in e ds) (sym come.old_is) ∙ off))

-- the edge just above it is the first behind it
pub first_behind : (t : Table) (e : ℕ) (es new : List ℕ) → is_in e es ≡ false → (come : IsInserted t e es new) → (above : Option ℕ) → IsNextAbove e new above → slice_get come.back 0 ≡ above
first_behind t e es new off come above next = let off_both = nowhere t e es new off come in above_is e new come.front come.back come.new_is off_both.0 off_both.1 above next

-- a chain at the lower end of a new edge is one with it in its place, where it does not conflict with those that it stands between
pub inserted : (t : Table) (e : ℕ) (es new : List ℕ) (beside : Beside) → IsTable t → e < length t.ends → is_chain_at t (lo_of t e) es ≡ true → is_in e es ≡ false → IsInserted t e es new → IsBeside e new beside → AreApart t beside.below (Some e) → AreApart t (Some e) beside.above
    → (is_chain_at t (lo_of t e) new ≡ true) × ((n : ℕ) → is_in n new ≡ (is_in n es || (n == e)))
inserted t e es new beside ok fits chain off come stands apart_below apart_above =
    let front = come.front in
    let back = come.back in
    let whole : is_chain_at t (lo_of t e) (front ++ back) ≡ true = subst (λ ds. is_chain_at t (lo_of t e) ds ≡ true) come.old_is chain in
    let off_both = nowhere t e es new off come in
    let last = below_is e new front back come.new_is off_both.0 off_both.1 beside.below stands.below in
    let first = first_behind t e es new off come beside.above stands.above in (
      subst (λ ds. is_chain_at t (lo_of t e) ds ≡ true) (sym come.new_is) (chain_with t ok e fits front back whole beside.below beside.above last first come.behind come.ahead apart_below apart_above),
      λ n. ap (λ ds. is_in n ds) come.new_is ∙ (members_with front back e n ∙ ap (λ ds. is_in n ds || (n == e)) (sym come.old_is)),
    )

-- ---- what stands beside the edge is one of the table
module _ (t : Table) (e : ℕ) (es : List ℕ) (all : All (λ a. a < length t.ends) es) where
  member_in_range : (front back : List ℕ) (d : ℕ) → es ≡ front ++ d ∷ back → d < length t.ends
  member_in_range front back d parts = let sum = length-append front (d ∷ back) in
      subst (λ a. a < length t.ends) (get_or-append_seam front d back 0) (All-get_or (λ a. a < length t.ends) (front ++ d ∷ back) (length front) 0 (omega arith) (All-same (λ a. a < length t.ends) (front ++ d ∷ back) es (sym parts) all))

  below_in_range : (below : Option ℕ) → IsNextBelow e es below → IsInRange t below
  below_in_range None next = tt
  below_in_range (Some d) next = member_in_range next.0 (e ∷ next.1) d next.2

  above_in_range : (above : Option ℕ) → IsNextAbove e es above → IsInRange t above
  above_in_range None next = tt
  above_in_range (Some a) next = member_in_range (next.0 ++ e ∷ []) next.1 a (next.2 ∙ sym (append_assoc next.0 (e ∷ []) (a ∷ next.1)))

-- the neighbours of an edge of a chain are edges of the table
pub removed_neighbours : (t : Table) (c e : ℕ) (es : List ℕ) (beside : Beside) → is_chain_at t c es ≡ true → IsBeside e es beside → IsInRange t beside.below × IsInRange t beside.above
removed_neighbours t c e es beside chain stands =
    let all = chain_in_range t (corner t c) es chain in
    (below_in_range t e es all beside.below stands.below, above_in_range t e es all beside.above stands.above)

-- and so are those of an edge that has come into a chain
pub inserted_neighbours : (t : Table) (e : ℕ) (es new : List ℕ) (beside : Beside) → e < length t.ends → is_chain_at t (lo_of t e) es ≡ true → IsInserted t e es new → IsBeside e new beside → IsInRange t beside.below × IsInRange t beside.above
inserted_neighbours t e es new beside fits chain come stands = (below_in_range t e new all beside.below stands.below, above_in_range t e new all beside.above stands.above)
  where
    P : ℕ → Type 0
    P a = a < length t.ends

    old : All P (come.front ++ come.back)
    old = All-same P (come.front ++ come.back) es (sym come.old_is) (chain_in_range t (corner t (lo_of t e)) es chain)

    all : All P new
    all = let sum = length-append come.front come.back in
        All-same P new (come.front ++ e ∷ come.back) come.new_is
        (All-append P come.front (e ∷ come.back)
        (All-from_get_or P come.front 0 (λ i less. subst P (get_or_append_left come.front come.back 0 i less) (All-get_or P (come.front ++ come.back) i 0 (omega arith) old)))
        (All-cons P e come.back fits
        (All-from_get_or P come.back 0 (λ i less. subst P (get_or-append-add come.front come.back i 0) (All-get_or P (come.front ++ come.back) (length come.front + i) 0 (omega arith) old)))))

-- ---- how many there are
-- an edge that goes makes the list shorter by one
pub removed_length : (e : ℕ) (es new : List ℕ) → IsRemoved e es new → length es ≡ length new + 1
removed_length e es new gone = omega (arith, ap (λ ds. length ds) gone.old_is, length-append gone.front (e ∷ gone.back), ap (λ ds. length ds) gone.new_is, length-append gone.front gone.back)

-- and one that comes makes it longer by one
pub inserted_length : (t : Table) (e : ℕ) (es new : List ℕ) → IsInserted t e es new → length new ≡ length es + 1
inserted_length t e es new come = omega (arith, ap (λ ds. length ds) come.new_is, length-append come.front (e ∷ come.back), ap (λ ds. length ds) come.old_is, length-append come.front come.back)
