-- The table of the edges that pass a test: it is a table, every corner is an end, no two edges conflict, and it is even where an even number of the edges that pass end at each
-- corner. Its one feature covers by the crossings of the edges that pass.
use Rattle.std.proofs.Common.{◌≡◌, ◌≢◌, ◌⊎◌, ℕ, zero, suc, ◌+◌, ◌-◌, ◌<◌, Bool, true, false, not, ◌&&◌, ◌||◌, List, [], ◌∷◌, map, filter, length, get_or, refl, sym, ◌∙◌, ap, ap₂, subst, inl, inr, arith}
use Rattle.std.specs.Prelude.{nat_lt, ◌==◌}
use Rattle.std.specs.List.{list_any, list_all, range_with_len}
use Rattle.std.proofs.lemmas.Bool.{and_parts, and_from, and_right, cases_Bool, cases_eq, cases_lt, cases_order, cond-true, cond-false, eq-eqb, eqb-true, ne_eqb, lt-ltb, ltb-true, or_cases, or_left, or_right, not_from_false, true≢false}
use Rattle.std.proofs.lemmas.List.{length-map, get_or-map, get_or_past}
use Rattle.loc_spec_plane.specs.Lists.{is_in, is_rising, numbers, exactly_one, odd_many}
use Rattle.loc_spec_plane.specs.Points.{Point, Edge, before, same_point, edge_before, is_end, lies_on, conflict}
use Rattle.loc_spec_plane.specs.{Rays.crosses_right, declared.Mark.Mark, Covers.is_over, Covers.is_at_or_under}
use Rattle.loc_spec_plane.specs.Tables.{Table, IsTable, AllEnds, AllEven, NoConflict, corner, edge, edge_numbers, corner_numbers, lo_of, hi_of, ends_at, has, has_odd, pair_before, mark_before, number_of, covers_by_marks}
use Rattle.loc_spec_plane.specs.Places.{alive, alive_at, lower, lower_of}
use Rattle.loc_spec_groups.specs.Groups.{chosen_edges, chosen_corners, chosen_table}
use Rattle.loc_laws_order.proofs.{Booleans.and_swap, Booleans.and_true, Booleans.same-from_both, Sides.same_point_refl}
use Rattle.loc_laws_order.proofs.Kept.{all_filter, rising_kept, numbers_rise, is_in-filter}
use Rattle.loc_laws_order.proofs.TableOrder.{rises, corner_before, numbers_within, is_end_is, edge_up, origin_point}
use Rattle.loc_laws_order.proofs.Unique.{all-at}
use Rattle.loc_laws_rays.proofs.{Covering.any-found, Covering.any-some, Covering.any-none, Members.in_numbers}
use Rattle.loc_laws_rays.proofs.Parity.{odd_many-same, never}
use Rattle.loc_laws_order.proofs.Numbered.{number_fits, at_number, number_up, pair_up}

-- ---- lists

-- a member that is found by its place
pub member_at : (ns : List ℕ) (k d : ℕ) → k < length ns → is_in (get_or ns k d) ns ≡ true
member_at [] k d lt = absurd (omega arith)
member_at (n ∷ ns) zero d lt = or_left (n == n) (is_in n ns) (eq-eqb n n refl)
member_at (n ∷ ns) (suc k) d lt = or_right (n == get_or ns k d) (is_in (get_or ns k d) ns) (member_at ns k d (omega arith))

-- and the place of a member
pub place_of : (ns : List ℕ) (n d : ℕ) → is_in n ns ≡ true → (k : ℕ) × (k < length ns) × (get_or ns k d ≡ n)
place_of [] n d here = absurd (true≢false (sym here))
place_of (m ∷ ns) n d here = elim (or_cases (m == n) (is_in n ns) here) [
  | inl same ↦ (zero, omega arith, eqb-true m n same)
  | inr later ↦ (let rest = place_of ns n d later in (suc rest.0, omega (arith, rest.1), rest.2))
]

-- the parity of a test, by places
pub odd_many-by_place : (test : ℕ → Bool) (d : ℕ) (ns : List ℕ) (a : ℕ) (f : ℕ → Bool) → ((k : ℕ) → k < length ns → f (a + k) ≡ test (get_or ns k d)) → odd_many f (range_with_len a (length ns)) ≡ odd_many test ns
odd_many-by_place test d [] a f each = refl
odd_many-by_place test d (n ∷ ns) a f each =
    let here : a + 0 ≡ a = omega arith in
    ap (λ b. exactly_one b (odd_many f (range_with_len (a + 1) (length ns)))) (ap f (sym here) ∙ each 0 (omega arith))
    ∙ ap (exactly_one (test n)) (odd_many-by_place test d ns (a + 1) f (λ k lt. (let next : (a + 1) + k ≡ a + suc k = omega arith in ap f next ∙ each (suc k) (omega arith))))

-- the parity of a test on what is kept of a list
pub odd_many-filter : {X : Type 0} (test keep : X → Bool) (xs : List X) → odd_many test (filter keep xs) ≡ odd_many (λ x. keep x && test x) xs
odd_many-filter test keep [] = refl
odd_many-filter test keep (x ∷ xs) = elim (cases_Bool (keep x)) [
  | inl yes_kept ↦ ap (odd_many test) (cond-true (keep x) (x ∷ filter keep xs) (filter keep xs) yes_kept) ∙ (ap (exactly_one (test x)) (odd_many-filter test keep xs) ∙ ap (λ b. exactly_one (b && test x) (odd_many (λ x. keep x && test x) xs)) (sym yes_kept))
  | inr not_kept ↦ ap (odd_many test) (cond-false (keep x) (x ∷ filter keep xs) (filter keep xs) not_kept) ∙ (odd_many-filter test keep xs ∙ ap (λ b. exactly_one (b && test x) (odd_many (λ x. keep x && test x) xs)) (sym not_kept))
]

module _ {X Y : Type 0} (comes_before : X → X → Bool) (then_before : Y → Y → Bool) (f : X → Y) where
  -- a map that keeps the order of the members of a list keeps that the list rises
  later-map : (here : X → Bool) → ((x y : X) → here x ≡ true → here y ≡ true → comes_before x y ≡ true → then_before (f x) (f y) ≡ true) → (x : X) (xs : List X) → here x ≡ true → list_all here xs ≡ true → list_all (comes_before x) xs ≡ true → list_all (then_before (f x)) (map f xs) ≡ true
  later-map here keeps x [] hx hs all = refl
  later-map here keeps x (y ∷ ys) hx hs all =
      let parts = and_parts (comes_before x y) (list_all (comes_before x) ys) all in
      let heres = and_parts (here y) (list_all here ys) hs in
      and_from _ _ (keeps x y hx heres.0 parts.0) (later-map here keeps x ys hx heres.1 parts.1)

  pub rising-map : (here : X → Bool) → ((x y : X) → here x ≡ true → here y ≡ true → comes_before x y ≡ true → then_before (f x) (f y) ≡ true) → (xs : List X) → list_all here xs ≡ true → is_rising comes_before xs ≡ true → is_rising then_before (map f xs) ≡ true
  rising-map here keeps [] hs rising = refl
  rising-map here keeps (x ∷ xs) hs rising =
      let parts = and_parts (list_all (comes_before x) xs) (is_rising comes_before xs) rising in
      let heres = and_parts (here x) (list_all here xs) hs in
      and_from _ _ (later-map here keeps x xs heres.0 heres.1 parts.0) (rising-map here keeps xs heres.1 parts.1)

-- all members of a filtered list of numbers pass what the kept numbers below n pass
all_kept : (keep test : ℕ → Bool) (n : ℕ) → ((k : ℕ) → k < n → keep k ≡ true → test k ≡ true) → list_all test (filter keep (numbers n)) ≡ true
all_kept keep test n each = all_filter keep (λ k. nat_lt k n) test (λ k lt kept. each k (ltb-true k n lt) kept) (numbers n) (numbers_within n)

module _ (t : Table) (ok : IsTable t) (keep : ℕ → Bool) where
  -- corner c is an end of an edge that passes
  abbrev is_chosen_end : ℕ → Bool
  is_chosen_end c = list_any (λ e. keep e && ends_at t c e) (edge_numbers t)

  -- the corners that stay, by their old numbers
  abbrev stay : List ℕ
  stay = filter is_chosen_end (corner_numbers t)

  corners_rise : is_rising before (chosen_corners t keep) ≡ true
  corners_rise = rising-map nat_lt before (corner t) (λ c. nat_lt c (length t.corners)) (λ c d hc hd less. corner_before t ok c d (ltb-true c d less) (ltb-true d (length t.corners) hd)) stay
      (all_kept is_chosen_end (λ c. nat_lt c (length t.corners)) (length t.corners) (λ c lt _. lt-ltb c (length t.corners) lt))
      (rising_kept is_chosen_end nat_lt (corner_numbers t) (numbers_rise (length t.corners)))

  found_among : (c : ℕ) (cs : List ℕ) → is_in c cs ≡ true → list_any (same_point (corner t c)) (map (corner t) cs) ≡ true
  found_among c [] here = here
  found_among c (d ∷ cs) here = elim (or_cases (d == c) (is_in c cs) here) [
    | inl same ↦ or_left (same_point (corner t c) (corner t d)) _ (subst (λ k. same_point (corner t c) (corner t k) ≡ true) (sym (eqb-true d c same)) (same_point_refl (corner t c)))
    | inr later ↦ or_right (same_point (corner t c) (corner t d)) _ (found_among c cs later)
  ]

  -- an end of an edge that passes stays
  stays : (c e : ℕ) → c < length t.corners → e < length t.ends → keep e ≡ true → ends_at t c e ≡ true → list_any (same_point (corner t c)) (chosen_corners t keep) ≡ true
  stays c e lc le yes_kept at = found_among c stay (is_in-filter is_chosen_end c (corner_numbers t) ∙ and_from (is_in c (corner_numbers t)) (is_chosen_end c) (in_numbers c (length t.corners) lc) (any-found (λ e. keep e && ends_at t c e) (edge_numbers t) e (in_numbers e (length t.ends) le) (and_from (keep e) (ends_at t c e) yes_kept at)))

  low_stays : (e : ℕ) → e < length t.ends → keep e ≡ true → list_any (same_point (edge t e).lo) (chosen_corners t keep) ≡ true
  low_stays e le yes_kept = let up = ok.goes_up e le in stays (lo_of t e) e (omega (arith, up.0, up.1)) le yes_kept (or_left (lo_of t e == lo_of t e) (hi_of t e == lo_of t e) (eq-eqb (lo_of t e) (lo_of t e) refl))

  high_stays : (e : ℕ) → e < length t.ends → keep e ≡ true → list_any (same_point (edge t e).hi) (chosen_corners t keep) ≡ true
  high_stays e le yes_kept = let up = ok.goes_up e le in stays (hi_of t e) e up.1 le yes_kept (or_right (lo_of t e == hi_of t e) (hi_of t e == hi_of t e) (eq-eqb (hi_of t e) (hi_of t e) refl))

  -- edge k of the new table was this edge
  abbrev pub old : ℕ → ℕ
  old k = get_or (chosen_edges t keep) k 0

  pub old_is : (k : ℕ) → k < length (chosen_edges t keep) → (old k < length t.ends) × (keep (old k) ≡ true)
  old_is k lt =
      let parts = and_parts (is_in (old k) (edge_numbers t)) (keep (old k)) (sym (is_in-filter keep (old k) (edge_numbers t)) ∙ member_at (chosen_edges t keep) k 0 lt) in
      (ltb-true (old k) (length t.ends) (all-at (λ n. nat_lt n (length t.ends)) (edge_numbers t) (old k) (numbers_within (length t.ends)) parts.0), parts.1)

  -- its ends by their new numbers
  abbrev new_ends : ℕ → ℕ × ℕ
  new_ends e = (number_of (chosen_corners t keep) (edge t e).lo, number_of (chosen_corners t keep) (edge t e).hi)

  ends_are : (k : ℕ) → k < length (chosen_edges t keep) → get_or (map new_ends (chosen_edges t keep)) k (0, 0) ≡ new_ends (old k)
  ends_are k lt = get_or-map new_ends (chosen_edges t keep) k 0 (0, 0) lt

  as_many : length (map new_ends (chosen_edges t keep)) ≡ length (chosen_edges t keep)
  as_many = length-map (chosen_edges t keep) new_ends

  pub length-chosen : length (chosen_table t keep).ends ≡ length (chosen_edges t keep)
  unfolding chosen_table
  length-chosen = as_many

  -- edges by their numbers go as by their points
  edge_up_by_number : (d e : ℕ) → d < length t.ends → e < length t.ends → d < e → edge_before (edge t d) (edge t e) ≡ true
  edge_up_by_number d e ld le less = elim (or_cases (nat_lt (lo_of t d) (lo_of t e)) ((lo_of t d == lo_of t e) && nat_lt (hi_of t d) (hi_of t e)) (rises pair_before (0, 0) t.ends d e ok.edges_rise less le)) [
    | inl low ↦ (let up = ok.goes_up e le in or_left (before (edge t d).lo (edge t e).lo) _ (corner_before t ok (lo_of t d) (lo_of t e) (ltb-true (lo_of t d) (lo_of t e) low) (omega (arith, up.0, up.1))))
    | inr high ↦ (let parts = and_parts (lo_of t d == lo_of t e) (nat_lt (hi_of t d) (hi_of t e)) high in
        let up = ok.goes_up e le in
        or_right (before (edge t d).lo (edge t e).lo) _ (and_from (same_point (edge t d).lo (edge t e).lo) (before (edge t d).hi (edge t e).hi) (subst (λ c. same_point (corner t (lo_of t d)) (corner t c) ≡ true) (eqb-true (lo_of t d) (lo_of t e) parts.0) (same_point_refl (corner t (lo_of t d)))) (corner_before t ok (hi_of t d) (hi_of t e) (ltb-true (hi_of t d) (hi_of t e) parts.1) up.1)))
  ]

  abbrev stands : ℕ → Bool
  stands e = nat_lt e (length t.ends) && keep e

  ends_rise : is_rising pair_before (map new_ends (chosen_edges t keep)) ≡ true
  ends_rise = rising-map nat_lt pair_before new_ends stands
      (λ d e hd he less. (let pd = and_parts (nat_lt d (length t.ends)) (keep d) hd in
      let pe = and_parts (nat_lt e (length t.ends)) (keep e) he in
      let ld = ltb-true d (length t.ends) pd.0 in
      let le = ltb-true e (length t.ends) pe.0 in
      pair_up (chosen_corners t keep) corners_rise (edge t d) (edge t e) (and_from _ _ (low_stays d ld pd.1) (high_stays d ld pd.1)) (and_from _ _ (low_stays e le pe.1) (high_stays e le pe.1)) (edge_up_by_number d e ld le (ltb-true d e less))))
      (chosen_edges t keep)
      (all_kept keep stands (length t.ends) (λ e lt yes_kept. and_from (nat_lt e (length t.ends)) (keep e) (lt-ltb e (length t.ends) lt) yes_kept))
      (rising_kept keep nat_lt (edge_numbers t) (numbers_rise (length t.ends)))

  -- their ends go up
  go_up : (k : ℕ) → k < length (map new_ends (chosen_edges t keep)) → ((get_or (map new_ends (chosen_edges t keep)) k (0, 0)).0 < (get_or (map new_ends (chosen_edges t keep)) k (0, 0)).1) × ((get_or (map new_ends (chosen_edges t keep)) k (0, 0)).1 < length (chosen_corners t keep))
  go_up k lt =
      let fits : k < length (chosen_edges t keep) = omega (arith, as_many) in
      let here = old_is k fits in
      let up : number_of (chosen_corners t keep) (edge t (old k)).lo < number_of (chosen_corners t keep) (edge t (old k)).hi = number_up (chosen_corners t keep) corners_rise (edge t (old k)).lo (edge t (old k)).hi (low_stays (old k) here.0 here.1) (high_stays (old k) here.0 here.1) (edge_up t ok (old k) here.0) in
      let below : number_of (chosen_corners t keep) (edge t (old k)).hi < length (chosen_corners t keep) = number_fits (chosen_corners t keep) corners_rise (edge t (old k)).hi (high_stays (old k) here.0 here.1) in
      (subst (λ (pair : ℕ × ℕ). pair.0 < pair.1) (sym (ends_are k fits)) up, subst (λ (pair : ℕ × ℕ). pair.1 < length (chosen_corners t keep)) (sym (ends_are k fits)) below)

  abbrev one_mark : ℕ → List Mark
  one_mark e = record { feature = 0; odd = true } ∷ []

  marks_are : (k : ℕ) → k < length (chosen_edges t keep) → get_or (map one_mark (chosen_edges t keep)) k [] ≡ record { feature = 0; odd = true } ∷ []
  marks_are k lt = get_or-map one_mark (chosen_edges t keep) k 0 [] lt

  pub chosen_is_table : IsTable (chosen_table t keep)
  unfolding chosen_table
  chosen_is_table = record {
    corners_rise = corners_rise;
    edges_rise = ends_rise;
    goes_up = go_up;
    marks_fit = length-map (chosen_edges t keep) one_mark ∙ sym as_many;
    marks_rise = λ k. elim (cases_lt k (length (chosen_edges t keep))) [
      | inl lt ↦ ap (is_rising mark_before) (marks_are k lt)
      | inr past ↦ ap (is_rising mark_before) (get_or_past (map one_mark (chosen_edges t keep)) k [] (omega (arith, length-map (chosen_edges t keep) one_mark)))
    ];
    sources_fit = refl;
    sources_go_up = λ k lt. go_up k lt;
  }

  -- its edges are those that pass
  pub edge_is : (k : ℕ) → k < length (chosen_edges t keep) → edge (chosen_table t keep) k ≡ edge t (old k)
  unfolding chosen_table
  edge_is k lt =
      let here = old_is k lt in
      ap₂ (λ p q. record { lo = p; hi = q })
      (ap (λ (pair : ℕ × ℕ). get_or (chosen_corners t keep) pair.0 origin_point) (ends_are k lt) ∙ at_number (chosen_corners t keep) corners_rise (edge t (old k)).lo origin_point (low_stays (old k) here.0 here.1))
      (ap (λ (pair : ℕ × ℕ). get_or (chosen_corners t keep) pair.1 origin_point) (ends_are k lt) ∙ at_number (chosen_corners t keep) corners_rise (edge t (old k)).hi origin_point (high_stays (old k) here.0 here.1))

  pub odd_is : (k : ℕ) → k < length (chosen_edges t keep) → has_odd (chosen_table t keep) 0 k ≡ true
  unfolding chosen_table
  odd_is k lt = ap (list_any (λ (m : Mark). (m.feature == 0) && m.odd)) (marks_are k lt)

  other_odd : (f k : ℕ) → k < length (chosen_edges t keep) → has_odd (chosen_table t keep) (f + 1) k ≡ false
  unfolding chosen_table
  other_odd f k lt = ap (list_any (λ (m : Mark). (m.feature == f + 1) && m.odd)) (marks_are k lt) ∙ ap (λ b. (b && true) || false) (ne_eqb 0 (f + 1) (λ h. omega arith))

  -- no two edges conflict
  pub chosen_apart : NoConflict t → NoConflict (chosen_table t keep)
  chosen_apart apart a b la lb =
      let fits_a : a < length (chosen_edges t keep) = omega (arith, length-chosen) in
      let fits_b : b < length (chosen_edges t keep) = omega (arith, length-chosen) in
      subst (λ e. not (conflict e (edge (chosen_table t keep) b)) ≡ true) (sym (edge_is a fits_a)) (subst (λ e. not (conflict (edge t (old a)) e) ≡ true) (sym (edge_is b fits_b)) (apart (old a) (old b) (old_is a fits_a).0 (old_is b fits_b).0))

  -- corner c of the new table was this corner
  abbrev was : ℕ → ℕ
  was c = get_or stay c 0

  length-corners : length (chosen_table t keep).corners ≡ length stay
  unfolding chosen_table
  length-corners = length-map stay (corner t)

  corner_is : (c : ℕ) → c < length stay → corner (chosen_table t keep) c ≡ corner t (was c)
  unfolding chosen_table
  corner_is c lt = get_or-map (corner t) stay c 0 origin_point lt

  was_is : (c : ℕ) → c < length stay → (was c < length t.corners) × (is_chosen_end (was c) ≡ true)
  was_is c lt =
      let parts = and_parts (is_in (was c) (corner_numbers t)) (is_chosen_end (was c)) (sym (is_in-filter is_chosen_end (was c) (corner_numbers t)) ∙ member_at stay c 0 lt) in
      (ltb-true (was c) (length t.corners) (all-at (λ n. nat_lt n (length t.corners)) (corner_numbers t) (was c) (numbers_within (length t.corners)) parts.0), parts.1)

  -- an edge of the new table ends at a corner where the old one did
  ends_at_is : (c k : ℕ) → c < length stay → k < length (chosen_edges t keep) → ends_at (chosen_table t keep) c k ≡ ends_at t (was c) (old k)
  ends_at_is c k lc lk =
      let fits_c : c < length (chosen_table t keep).corners = omega (arith, length-corners) in
      let fits_k : k < length (chosen_table t keep).ends = omega (arith, length-chosen) in
      sym (is_end_is (chosen_table t keep) chosen_is_table c k fits_c fits_k)
      ∙ (ap₂ is_end (edge_is k lk) (corner_is c lc) ∙ is_end_is t ok (was c) (old k) (was_is c lc).0 (old_is k lk).0)

  -- every corner is an end
  pub chosen_ended : AllEnds (chosen_table t keep)
  chosen_ended c lt =
      let fits : c < length stay = omega (arith, length-corners) in
      let found = any-some (λ e. keep e && ends_at t (was c) e) (length t.ends) (edge_numbers t) (numbers_within (length t.ends)) (was_is c fits).1 in
      let parts = and_parts (keep found.0) (ends_at t (was c) found.0) found.2 in
      let place = place_of (chosen_edges t keep) found.0 0 (is_in-filter keep found.0 (edge_numbers t) ∙ and_from (is_in found.0 (edge_numbers t)) (keep found.0) (in_numbers found.0 (length t.ends) found.1) parts.0) in
      any-found (ends_at (chosen_table t keep) c) (edge_numbers (chosen_table t keep)) place.0 (in_numbers place.0 (length (chosen_table t keep).ends) (omega (arith, place.1, length-chosen)))
      (ends_at_is c place.0 fits place.1 ∙ (ap (ends_at t (was c)) place.2 ∙ parts.1))

  -- the parity of a test on the edges of the new table
  pub by_old : (f test : ℕ → Bool) → ((k : ℕ) → k < length (chosen_edges t keep) → f k ≡ test (old k)) → odd_many f (edge_numbers (chosen_table t keep)) ≡ odd_many (λ e. keep e && test e) (edge_numbers t)
  by_old f test each =
      ap (λ n. odd_many f (numbers n)) length-chosen
      ∙ (odd_many-by_place test 0 (chosen_edges t keep) 0 f (λ k lt. (let from_zero : 0 + k ≡ k = omega arith in ap f from_zero ∙ each k lt)) ∙ odd_many-filter test keep (edge_numbers t))

  -- even where an even number of the edges that pass end at each corner
  pub chosen_even : ((c : ℕ) → c < length t.corners → odd_many (λ e. ends_at t c e && keep e) (edge_numbers t) ≡ false) → AllEven (chosen_table t keep)
  chosen_even even c lt f =
      let fits : c < length stay = omega (arith, length-corners) in
      not_from_false _ (at fits (cases_eq f 0))
    where
      one : c < length stay → odd_many (λ k. ends_at (chosen_table t keep) c k && has_odd (chosen_table t keep) 0 k) (edge_numbers (chosen_table t keep)) ≡ false
      one fits = by_old (λ k. ends_at (chosen_table t keep) c k && has_odd (chosen_table t keep) 0 k) (ends_at t (was c)) (λ k lk. ap₂ (λ a b. a && b) (ends_at_is c k fits lk) (odd_is k lk) ∙ and_true (ends_at t (was c) (old k)))
          ∙ (odd_many-same (λ e. keep e && ends_at t (was c) e) (λ e. ends_at t (was c) e && keep e) (edge_numbers t) (λ e. and_swap (keep e) (ends_at t (was c) e)) ∙ even (was c) (was_is c fits).0)

      none : (g : ℕ) → odd_many (λ k. ends_at (chosen_table t keep) c k && has_odd (chosen_table t keep) (g + 1) k) (edge_numbers (chosen_table t keep)) ≡ false
      none g = by_old (λ k. ends_at (chosen_table t keep) c k && has_odd (chosen_table t keep) (g + 1) k) (λ e. false) (λ k lk. and_right (ends_at (chosen_table t keep) c k) _ (other_odd g k lk))
          ∙ (odd_many-same (λ e. keep e && false) (λ e. false) (edge_numbers t) (λ e. and_right (keep e) false refl) ∙ never (edge_numbers t))

      at : c < length stay → (f ≡ 0) ⊎ (f ≡ 0 → ⊥) → odd_many (λ k. ends_at (chosen_table t keep) c k && has_odd (chosen_table t keep) f k) (edge_numbers (chosen_table t keep)) ≡ false
      at fits (inl zero_f) = subst (λ g. odd_many (λ k. ends_at (chosen_table t keep) c k && has_odd (chosen_table t keep) g k) (edge_numbers (chosen_table t keep)) ≡ false) (sym zero_f) (one fits)
      at fits (inr other) =
          let ne : f ≢ 0 = other in
          let more : (f - 1) + 1 ≡ f = omega arith in
          subst (λ g. odd_many (λ k. ends_at (chosen_table t keep) c k && has_odd (chosen_table t keep) g k) (edge_numbers (chosen_table t keep)) ≡ false) more (none (f - 1))

  -- for a point on none of the edges, the feature covers it by the crossings of those that pass
  pub chosen_covers : (p : Point) → ((e : ℕ) → e < length t.ends → lies_on (edge t e) p ≡ false) → covers_by_marks (chosen_table t keep) 0 p ≡ odd_many (λ e. keep e && crosses_right (edge t e) p) (edge_numbers t)
  chosen_covers p off =
      ap (λ b. not b && odd_many (λ k. has_odd (chosen_table t keep) 0 k && crosses_right (edge (chosen_table t keep) k) p) (edge_numbers (chosen_table t keep)))
      (any-none (λ k. has (chosen_table t keep) 0 k && lies_on (edge (chosen_table t keep) k) p) (length (chosen_table t keep).ends) (edge_numbers (chosen_table t keep)) (numbers_within (length (chosen_table t keep).ends)) (λ k lk. (let fits : k < length (chosen_edges t keep) = omega (arith, length-chosen) in and_right (has (chosen_table t keep) 0 k) _ (ap (λ e. lies_on e p) (edge_is k fits) ∙ off (old k) (old_is k fits).0))))
      ∙ by_old (λ k. has_odd (chosen_table t keep) 0 k && crosses_right (edge (chosen_table t keep) k) p) (λ e. crosses_right (edge t e) p) (λ k lk. ap₂ (λ a e. a && crosses_right e p) (odd_is k lk) (edge_is k lk))

  -- different numbers were different edges
  old_differs : (d k : ℕ) → d < length (chosen_edges t keep) → k < length (chosen_edges t keep) → old d ≡ old k → d ≡ k
  old_differs d k ld lk same = elim (cases_order d k) [
    | inl at ↦ at
    | inr differ ↦ elim differ [
      | inl less ↦ (let up : old d < old k = ltb-true (old d) (old k) (rises nat_lt 0 (chosen_edges t keep) d k numbers_up less lk) in absurd (omega arith))
      | inr more ↦ (let up : old k < old d = ltb-true (old k) (old d) (rises nat_lt 0 (chosen_edges t keep) k d numbers_up more ld) in absurd (omega arith))
    ]
  ]
    where
      numbers_up : is_rising nat_lt (chosen_edges t keep) ≡ true
      numbers_up = rising_kept keep nat_lt (edge_numbers t) (numbers_rise (length t.ends))

  alive_is : (p : Point) (d : ℕ) → d < length (chosen_edges t keep) → alive_at (chosen_table t keep) p d ≡ alive_at t p (old d)
  alive_is p d ld = ap₂ (λ a e. a && alive e p) (lt-ltb d (length (chosen_table t keep).ends) (omega (arith, length-chosen))) (edge_is d ld) ∙ ap (λ a. a && alive (edge t (old d)) p) (sym (lt-ltb (old d) (length t.ends) (old_is d ld).0))

  lower_is : (d k : ℕ) → d < length (chosen_edges t keep) → k < length (chosen_edges t keep) → lower_of (chosen_table t keep) d k ≡ lower_of t (old d) (old k)
  lower_is d k ld lk = ap₂ lower (edge_is d ld) (edge_is k lk)

  -- its feature is above an edge where an odd number of the edges that pass stand at or under the old one
  pub chosen_over : (k : ℕ) → k < length (chosen_edges t keep) → is_over (chosen_table t keep) k 0 ≡ odd_many (λ e. is_at_or_under t (old k) e && keep e) (edge_numbers t)
  chosen_over k lk =
      by_old (λ d. is_at_or_under (chosen_table t keep) k d && has_odd (chosen_table t keep) 0 d) (is_at_or_under t (old k)) (λ d ld.
      ap (λ b. is_at_or_under (chosen_table t keep) k d && b) (odd_is d ld) ∙ (and_true (is_at_or_under (chosen_table t keep) k d)
      ∙ ap₂ (λ a b. a || b)
      (same-from_both (d == k) (old d == old k) (λ same. eq-eqb (old d) (old k) (ap old (eqb-true d k same))) (λ same. eq-eqb d k (old_differs d k ld lk (eqb-true (old d) (old k) same))))
      (ap₂ (λ a b. a && b) (ap (λ (e : Edge). alive_at (chosen_table t keep) e.lo d) (edge_is k lk) ∙ alive_is (edge t (old k)).lo d ld) (lower_is d k ld lk))))
      ∙ odd_many-same (λ e. keep e && is_at_or_under t (old k) e) (λ e. is_at_or_under t (old k) e && keep e) (edge_numbers t) (λ e. and_swap (keep e) (is_at_or_under t (old k) e))
