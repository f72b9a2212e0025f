-- The edges beside a corner, where they are known: the lower one of those between which the first edge stood that began there, or the last that ended
-- there, is the floor of the corner.
use Rattle.std.proofs.Common.{◌≡◌, ℕ, suc, ◌+◌, ◌-◌, ◌<◌, Bool, true, false, not, ◌&&◌, List, [], ◌∷◌, ◌++◌, length, get_or, refl, sym, ◌∙◌, ap, subst, inl, inr, arith, Option, Some, None}
use Rattle.std.specs.Prelude.{IfSome, nat_lt, ◌==◌}
use Rattle.std.specs.List.{All, last_or}
use Rattle.std.proofs.lemmas.Bool.{and_parts, both_ways, cond-false, lt-ltb, ltb-true, ne_eqb, not-true, or_cases}
use Rattle.std.proofs.lemmas.List.{length-append, get_or_append_left, get_or-append-add}
use Rattle.std.proofs.lemmas.List.Elements.{All-cons, All-from_get_or, All-get_or, All-head, All-tail}
use Rattle.std.proofs.lemmas.Option.{slice_get-get_or}
use Rattle.loc_spec_plane.specs.{Lists.is_in, Points.is_above, Points.is_below, Places.is_edge, Places.lower_of}
use Rattle.loc_spec_plane.specs.Tables.{Table, IsTable, corner, edge, lo_of, hi_of}
use Rattle.loc_laws_order.specs.Laws.{later_or, last_that}
use Rattle.loc_laws_order.proofs.{ListLaws.is_in-get, Sides.on-not_above, Sides.low_is_on}
use Rattle.loc_edges.specs.declared.ranks.Placing.TheVariants.{Below, Above}
use Rattle.loc_edges.specs.Placing.{IsPlacing, deciding_end}
use Rattle.loc_status.specs.{declared.status.Beside.Beside, declared.targets.Target.TheVariants.End}
use Rattle.loc_status.specs.Lists.{is_chain_at, IsBeside, IsInserted, IsRemoved}
use Rattle.loc_status.specs.{Meaning.StatusMeaning, Targets.is_passed}
use Rattle.loc_status.proofs.{Beginning.below-not_above, Ends.at_seam}
use Rattle.loc_status.proofs.Standing.{lower_end_decides, parted_by_end}
use Rattle.loc_sweep.specs.{Course.LiesAbove, Line.goes_past}
use Rattle.loc_sweep.proofs.{EdgesComing.IsComing, Chains.below_is, Chains.nowhere, Chains.stands_once}

-- ---- the last that passes, in a list in two parts
-- none does
none_passes : (test : ℕ → Bool) (es : List ℕ) → All (λ a. test a ≡ false) es → last_that test es ≡ None
none_passes test [] never = refl
none_passes test (e ∷ es) never = ap (λ o. later_or o (test e) e) (none_passes test es (All-tail (λ a. test a ≡ false) e es never)) ∙ ap (λ b. later_or None b e) (All-head (λ a. test a ≡ false) e es never)

some_last : (a b : ℕ) (es : List ℕ) → later_or (last_or (Some b) es) true a ≡ last_or (Some b) es
some_last a b [] = refl
some_last a b (e ∷ es) = some_last a e es

last_more : (a : ℕ) (es : List ℕ) → later_or (last_or None es) true a ≡ last_or None (a ∷ es)
last_more a [] = refl
last_more a (b ∷ es) = some_last a b es

-- where those of the front pass and no other, it is the last of the front
front_passes : (test : ℕ → Bool) (front back : List ℕ) → All (λ a. test a ≡ true) front → All (λ a. test a ≡ false) back → last_that test (front ++ back) ≡ last_or None front
front_passes test [] back each never = none_passes test back never
front_passes test (a ∷ front) back each never =
    ap (λ o. later_or o (test a) a) (front_passes test front back (All-tail (λ a. test a ≡ true) a front each) never)
    ∙ (ap (λ b. later_or (last_or None front) b a) (All-head (λ a. test a ≡ true) a front each) ∙ last_more a front)

-- one that does not pass changes nothing
passed_over : (test : ℕ → Bool) (front back : List ℕ) (e : ℕ) → test e ≡ false → last_that test (front ++ e ∷ back) ≡ last_that test (front ++ back)
passed_over test [] back e off = ap (λ b. later_or (last_that test back) b e) off ∙ as_it_was (last_that test back)
  where
    as_it_was : (o : Option ℕ) → later_or o false e ≡ o
    as_it_was None = refl
    as_it_was (Some m) = refl
passed_over test (a ∷ front) back e off = ap (λ o. later_or o (test a) a) (passed_over test front back e off)

-- ---- a member of a list in two parts
module _ (t : Table) (c : ℕ) (front back : List ℕ) (each : (n : ℕ) → is_in n (front ++ back) ≡ true → goes_past t c n ≡ true) where
  member_goes : (i a : ℕ) → i < length (front ++ back) → get_or (front ++ back) i 0 ≡ a → (a < length t.ends) × ((lo_of t a < c) × (c < hi_of t a))
  member_goes i a fits is =
      let past = each a (is_in-get (front ++ back) i a (slice_get-get_or (front ++ back) i 0 fits ∙ ap (λ k. Some k) is)) in
      let parts = and_parts (is_edge t a) (nat_lt (lo_of t a) c && nat_lt c (hi_of t a)) past in
      let bounds = and_parts (nat_lt (lo_of t a) c) (nat_lt c (hi_of t a)) parts.1 in
      (ltb-true a (length t.ends) parts.0, (ltb-true (lo_of t a) c bounds.0, ltb-true c (hi_of t a) bounds.1))

  -- those of the front, and those of the back
  front_goes : (i : ℕ) → i < length front → (get_or front i 0 < length t.ends) × ((lo_of t (get_or front i 0) < c) × (c < hi_of t (get_or front i 0)))
  front_goes i less = member_goes i (get_or front i 0) (let sum = length-append front back in omega (arith, less, sum)) (get_or_append_left front back 0 i less)

  back_goes : (i : ℕ) → i < length back → (get_or back i 0 < length t.ends) × ((lo_of t (get_or back i 0) < c) × (c < hi_of t (get_or back i 0)))
  back_goes i less = member_goes (length front + i) (get_or back i 0) (let sum = length-append front back in omega (arith, less, sum)) (get_or-append-add front back i 0)

-- ---- the last edge that left
-- it ends at corner c, and stood between these edges in the list before it left
pub record IsLastGone (t : Table) (c : ℕ) (list : List ℕ) (beside : Beside) : Type 0 where
  pub number : ℕ
  pub earlier : List ℕ
  pub fits : number < length t.ends
  pub ends : hi_of t number ≡ c
  pub chain : is_chain_at t (hi_of t number - 1) earlier ≡ true
  pub gone : IsRemoved number earlier list
  pub stood : IsBeside number earlier beside

module _ (t : Table) (ok : IsTable t) (c : ℕ) (list : List ℕ) (beside : Beside) (exact : (n : ℕ) → is_in n list ≡ goes_past t c n) (last : IsLastGone t c list beside) where
  abbrev e : ℕ
  e = last.number

  abbrev front : List ℕ
  front = last.gone.front

  abbrev back : List ℕ
  back = last.gone.back

  abbrev pub has_above : ℕ → Bool
  has_above a = is_above (edge t a) (corner t c)

  whole : is_chain_at t (hi_of t e - 1) (front ++ e ∷ back) ≡ true
  whole = subst (λ ds. is_chain_at t (hi_of t e - 1) ds ≡ true) last.gone.old_is last.chain

  each : (n : ℕ) → is_in n (front ++ back) ≡ true → goes_past t c n ≡ true
  each n here = sym (exact n) ∙ (ap (λ ds. is_in n ds) last.gone.new_is ∙ here)

  -- of an edge that does not end there the side of the corner decides
  by_side : (a : ℕ) (side : Bool) → c < hi_of t a → is_passed t (End e) a ≡ side → has_above a ≡ side
  by_side a side over passed =
      ap (λ k. is_above (edge t a) (corner t k)) (sym last.ends)
      ∙ (sym (cond-false (hi_of t a == hi_of t e) (lower_of t a e) (is_above (edge t a) (edge t e).hi) (ne_eqb (hi_of t a) (hi_of t e) (λ same. omega (arith, over, same, last.ends)))) ∙ passed)

  passed_before : All (λ a. has_above a ≡ true) front
  passed_before = All-from_get_or (λ a. has_above a ≡ true) front 0 (λ i less.
      (let parted = parted_by_end t ok e last.fits (front ++ e ∷ back) whole (length front) (at_seam front (e ∷ back)) in
      let sum = length-append front (e ∷ back) in
      by_side (get_or front i 0) true (front_goes t c front back each i less).1.1
      (subst (λ a. is_passed t (End e) a ≡ true) (get_or_append_left front (e ∷ back) 0 i less) (parted.before i less (omega (arith, less, sum))))))

  not_behind : All (λ a. has_above a ≡ false) back
  not_behind = All-from_get_or (λ a. has_above a ≡ false) back 0 (λ i less.
      (let parted = parted_by_end t ok e last.fits (front ++ e ∷ back) whole (length front) (at_seam front (e ∷ back)) in
      let sum = length-append front (e ∷ back) in
      by_side (get_or back i 0) false (back_goes t c front back each i less).1.1
      (subst (λ a. is_passed t (End e) a ≡ false) (get_or-append-add front (e ∷ back) (i + 1) 0 ∙ next_in back i) (parted.behind (length front + (i + 1)) (omega arith) (omega (arith, less, sum))))))
    where
      next_in : (back : List ℕ) (i : ℕ) → get_or (e ∷ back) (i + 1) 0 ≡ get_or back i 0
      next_in back i = let one_more : i + 1 ≡ suc i = omega arith in ap (λ k. get_or (e ∷ back) k 0) one_more

  -- then the corner lies above the edge before it
  pub floor_left : beside.below ≡ last_that has_above list
  floor_left =
      let once = stands_once t (corner t (hi_of t e - 1)) front back e whole in
      let below = below_is e last.earlier front back last.gone.old_is once.0 once.1 beside.below last.stood.below in
      sym (ap (λ ds. last_that has_above ds) last.gone.new_is ∙ (front_passes has_above front back passed_before not_behind ∙ below))

-- so where it is known which left last, the corner lies between those
pub lies_above : (t : Table) → IsTable t → (c : ℕ) (list : List ℕ) → ((n : ℕ) → is_in n list ≡ goes_past t c n) → (between : Option Beside) → IfSome between (IsLastGone t c list) → LiesAbove t c list between
lies_above t ok c list exact None last = tt
lies_above t ok c list exact (Some beside) last = floor_left t ok c list beside exact last

-- ---- the edges that come
-- an edge has no point above it where it begins
begins_level : (t : Table) (c e : ℕ) → lo_of t e ≡ c → is_above (edge t e) (corner t c) ≡ false
begins_level t c e here = subst (λ k. is_above (edge t e) (corner t k) ≡ false) here (on-not_above (edge t e) (edge t e).lo (low_is_on (edge t e)))

-- one that begins at the corner leaves its floor as it is
pub floor_kept : (t : Table) (c e : ℕ) (es new : List ℕ) → lo_of t e ≡ c → IsInserted t e es new → last_that (λ a. is_above (edge t a) (corner t c)) new ≡ last_that (λ a. is_above (edge t a) (corner t c)) es
floor_kept t c e es new here come =
    ap (λ ds. last_that (λ a. is_above (edge t a) (corner t c)) ds) come.new_is
    ∙ (passed_over (λ a. is_above (edge t a) (corner t c)) come.front come.back e (begins_level t c e here)
    ∙ ap (λ ds. last_that (λ a. is_above (edge t a) (corner t c)) ds) (sym come.old_is))

module _ (t : Table) (ok : IsTable t) (c e : ℕ) (fits : e < length t.ends) (here : lo_of t e ≡ c) (es new : List ℕ) (come : IsInserted t e es new) (each : (n : ℕ) → is_in n es ≡ true → goes_past t c n ≡ true) where
  goes : (n : ℕ) → is_in n (come.front ++ come.back) ≡ true → goes_past t c n ≡ true
  goes n listed = each n (ap (λ ds. is_in n ds) come.old_is ∙ listed)

  decides : (a : ℕ) → a < length t.ends → lo_of t a < c → deciding_end (edge t a) (edge t e) ≡ corner t c
  decides a fits_a under = lower_end_decides t ok a e fits_a fits (λ same. omega (arith, same, here, under)) ∙ ap (corner t) here

  below_it : All (λ a. is_above (edge t a) (corner t c) ≡ true) come.front
  below_it = All-from_get_or (λ a. is_above (edge t a) (corner t c) ≡ true) come.front 0 (λ i less.
      (let bounds = front_goes t c come.front come.back goes i less in
      let a = get_or come.front i 0 in
      let placing : IsPlacing (edge t a) (edge t e) Above = All-get_or (λ a. IsPlacing (edge t a) (edge t e) Above) come.front i 0 less come.behind in
      subst (λ p. is_above (edge t a) p ≡ true) (decides a bounds.0 bounds.1.0) placing.1))

  above_it : All (λ a. is_above (edge t a) (corner t c) ≡ false) come.back
  above_it = All-from_get_or (λ a. is_above (edge t a) (corner t c) ≡ false) come.back 0 (λ i less.
      (let bounds = back_goes t c come.front come.back goes i less in
      let a = get_or come.back i 0 in
      let placing : IsPlacing (edge t a) (edge t e) Below = All-get_or (λ a. IsPlacing (edge t a) (edge t e) Below) come.back i 0 less come.ahead in
      below-not_above (edge t a) (corner t c) (subst (λ p. is_below (edge t a) p ≡ true) (decides a bounds.0 bounds.1.0) placing.1)))

  -- the first that begins there comes right above the floor
  pub floor_first : (beside : Beside) → is_in e es ≡ false → IsBeside e new beside → beside.below ≡ last_that (λ a. is_above (edge t a) (corner t c)) new
  floor_first beside off stands =
      let off_both = nowhere t e es new off come in
      let below = below_is e new come.front come.back come.new_is off_both.0 off_both.1 beside.below stands.below in
      sym (ap (λ ds. last_that (λ a. is_above (edge t a) (corner t c)) ds) come.new_is
      ∙ (front_passes (λ a. is_above (edge t a) (corner t c)) come.front (e ∷ come.back) below_it (All-cons (λ a. is_above (edge t a) (corner t c) ≡ false) e come.back (begins_level t c e here) above_it) ∙ below))

-- before the first of them came, the edges of the list go past the corner
pub all_past : (t : Table) (c first k : ℕ) (old new : StatusMeaning) → IsComing t c first k old new → k ≡ first → (n : ℕ) → is_in n new.list ≡ true → goes_past t c n ≡ true
all_past t c first k old new coming at n here = elim (or_cases (goes_past t c n) (not (nat_lt n first) && nat_lt n k) (sym (coming.exact n) ∙ here)) [
  | inl past ↦ past
  | inr between ↦ (let parts = and_parts (not (nat_lt n first)) (nat_lt n k) between in
      absurd (both_ways (nat_lt n first) (not-true (nat_lt n first) parts.0) (lt-ltb n first (let less = ltb-true n k parts.1 in omega (arith, less, at)))))
]

-- where the corner is known to lie between two edges, it lies so when one more has come
pub lies_kept : (t : Table) (c e : ℕ) (es new : List ℕ) → lo_of t e ≡ c → IsInserted t e es new → (between : Option Beside) → LiesAbove t c es between → LiesAbove t c new between
lies_kept t c e es new here come None lies = tt
lies_kept t c e es new here come (Some beside) lies = lies ∙ sym (floor_kept t c e es new here come)
