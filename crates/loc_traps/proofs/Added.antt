-- The map after an edge is added.
use Rattle.std.proofs.Common.{◌≡◌, ℕ, ◌+◌, ◌*◌, ◌-◌, ◌<◌, ◌≤◌, Bool, true, false, not, ◌&&◌, ◌||◌, List, [], ◌∷◌, ◌++◌, length, refl, sym, ◌∙◌, ap, subst, inl, inr, arith}
use Rattle.std.specs.Prelude.{Option, None, if◌then◌else◌, ◌==◌}
use Rattle.std.proofs.lemmas.Bool.{cases_Bool, both_ways, eq-eqb}
use Rattle.std.proofs.lemmas.List.{length_push, take_all}
use Rattle.std.proofs.lemmas.List.Folds.{list_any-append, list_any_at}
use Rattle.loc_spec_plane.specs.{declared.Trap.Trap, Tables.Table, Tables.lo_of, Tables.hi_of, Traps.is_trap}
use Rattle.loc_laws_order.proofs.{Booleans.or_none, Sets.number_swap}
use Rattle.loc_laws_traps.specs.Sets.{IsCalmSet, with_edge, behind_left, before_right, is_cut, is_lowest_at, is_highest_at}
use Rattle.loc_laws_traps.specs.Maps.{IsMap, AreFresh, Names, Renames}
use Rattle.loc_laws_traps.proofs.{Corners.is_first_by, Corners.same_set, Maps.map_law, Maps.names_by}
use Rattle.loc_traps.specs.{declared.map.Split.Split, declared.walk.Start.Start, declared.walk.Cut.Cut}
use Rattle.loc_traps.specs.Meaning.{MapMeaning, IsMapOf, row_of, live_of, named_of, among, live_count}
use Rattle.loc_traps.specs.Splits.{split_of, is_cut_by, IsAdded}
use Rattle.loc_traps.specs.Walks.{fresh_rows, IsWalk, IsNumbered}
use Rattle.loc_traps.proofs.{Burying.not_before, Rows.all_rows, Rows.fresh_count, Rows.all_count}
use Rattle.loc_traps.proofs.Joining.{are_fresh, old_stays, split_cuts, splits_complete}

-- some split cuts the row, or none does
cut_by_member : (splits : List Split) (j : ℕ) → j < length splits → is_cut_by splits (split_of splits j).cut ≡ true
cut_by_member splits j less = list_any_at (λ (s : Split). s.cut == (split_of splits j).cut) splits j (record { cut = 0; before = None; above = 0; below = 0; behind = None }) less (eq-eqb (split_of splits j).cut (split_of splits j).cut refl)

cut_by_none : (splits : List Split) (i : ℕ) → ((j : ℕ) → j < length splits → (split_of splits j).cut ≡ i → ⊥) → is_cut_by splits i ≡ false
cut_by_none splits i off = subst (λ (s : List Split). is_cut_by s i ≡ false) (take_all (length splits) splits (omega arith)) (not_before splits (length splits) (omega arith) i off)

-- the set with the edge, as a list
pub set_is : (added : List ℕ) (e : ℕ) → with_edge (among added) e ≡ among (added ++ e ∷ [])
set_is added e = same_set (with_edge (among added) e) (among (added ++ e ∷ [])) (λ d. sym (list_any-append (λ m. m == d) added (e ∷ []) ∙ ap (λ b. among added d || b) (or_none (e == d) ∙ number_swap e d)))

module _ (t : Table) (m : MapMeaning) (is_map : IsMapOf t m) (e : ℕ) (set : IsCalmSet t (with_edge (among m.added) e)) (is_new_one : among m.added e ≡ false) (from last : ℕ) (overs unders : List Start) (cuts : List Cut)
    (w : IsWalk t m.added m.rows m.is_live e from last overs unders cuts) (splits : List Split) (numbered : IsNumbered m.rows (lo_of t e) (hi_of t e) (length overs - 1) (length unders - 1) (behind_left (row_of m.rows from).left (lo_of t e)) cuts splits)
    (new : MapMeaning) (rows_is : new.rows ≡ m.rows ++ fresh_rows e (lo_of t e) (hi_of t e) overs unders (row_of m.rows from) (row_of m.rows last)) (added_is : new.added ≡ m.added ++ e ∷ [])
    (stays : (i : ℕ) → i < length m.rows → live_of new.is_live i ≡ (live_of m.is_live i && not (is_cut_by splits i))) (new_live : (i : ℕ) → length m.rows ≤ i → i < length new.rows → live_of new.is_live i ≡ true) where
  abbrev rows : List Trap
  rows = all_rows m.rows e (lo_of t e) (hi_of t e) overs unders (row_of m.rows from) (row_of m.rows last)

  abbrev n : ℕ
  n = length m.rows

  longer : n ≤ length rows
  longer = let c = all_count m.rows e (lo_of t e) (hi_of t e) overs unders (row_of m.rows from) (row_of m.rows last) in omega arith

  kept : (i : ℕ) → i < n → row_of rows i ≡ row_of m.rows i
  kept = old_stays t m is_map e set is_new_one from last overs unders cuts w

  -- the rows with a split are the live ones that the edge cuts
  and_same : (a b c : Bool) → (a ≡ true → b ≡ c) → (a && not b) ≡ (a && not c)
  and_same true b c h = ap not (h refl)
  and_same false b c h = refl

  stays_uncut : (i : ℕ) → i < n → live_of new.is_live i ≡ (live_of m.is_live i && not (is_cut t e (row_of m.rows i)))
  stays_uncut i less = stays i less ∙ and_same (live_of m.is_live i) (is_cut_by splits i) (is_cut t e (row_of m.rows i)) (λ live. elim (cases_Bool (is_cut t e (row_of m.rows i))) [
    | inl cut ↦ (let found = splits_complete t m is_map e set is_new_one from last overs unders cuts w splits numbered i less live cut in
        subst (λ k. is_cut_by splits k ≡ true) found.2 (cut_by_member splits found.0 found.1) ∙ sym cut)
    | inr off ↦ cut_by_none splits i (λ j real same. both_ways (is_cut t e (row_of m.rows i)) off (subst (λ k. is_cut t e (row_of m.rows k) ≡ true) same (split_cuts t m is_map e set is_new_one from last overs unders cuts w splits numbered j real))) ∙ sym off
  ])

  pub is_added : IsAdded t e m new
  is_added = record {
    edge = added_is;
    longer = subst (λ (rs : List Trap). n ≤ length rs) (sym rows_is) longer;
    kept = subst (λ (rs : List Trap). (i : ℕ) → i < n → row_of rs i ≡ row_of m.rows i) (sym rows_is) kept;
    stays = stays_uncut;
    fresh = new_live;
  }

  -- ---- the laws of maps
  old_map : IsMap t (among m.added) n (row_of rows) (live_of m.is_live)
  old_map = record {
    sound = λ i less live. subst (λ (x : Trap). is_trap t (among m.added) x ≡ true) (sym (kept i less)) (is_map.map.sound i less live);
    complete = λ trap is_one. (let found = is_map.map.complete trap is_one in (found.0, found.1, found.2, kept found.0 found.1 ∙ found.3));
    single = λ i j less_i less_j live_i live_j same. is_map.map.single i j less_i less_j live_i live_j (sym (kept i less_i) ∙ (same ∙ kept j less_j));
  }

  old_names : (kind : ℕ → Trap → Bool) (named : ℕ → Option ℕ) → Names t (among m.added) n (row_of m.rows) (live_of m.is_live) kind named → Names t (among m.added) n (row_of rows) (live_of m.is_live) kind named
  old_names kind named names c is_end = let found = names c is_end in (found.0, found.1, found.2, found.3, subst (λ (x : Trap). kind c x ≡ true) (sym (kept found.0 found.2)) found.4)

  pieces : AreFresh t (among m.added) e n (length rows) (row_of rows)
  pieces = are_fresh t m is_map e set is_new_one from last overs unders cuts w

  old_rows : (i : ℕ) → i < n → live_of new.is_live i ≡ (live_of m.is_live i && not (is_cut t e (row_of rows i)))
  old_rows i less = stays_uncut i less ∙ ap (λ (x : Trap). live_of m.is_live i && not (is_cut t e x)) (sym (kept i less))

  new_rows : (i : ℕ) → n ≤ i → i < length rows → live_of new.is_live i ≡ true
  new_rows = subst (λ (rs : List Trap). (i : ℕ) → n ≤ i → i < length rs → live_of new.is_live i ≡ true) rows_is new_live

  joined : IsMap t (with_edge (among m.added) e) (length rows) (row_of rows) (live_of new.is_live)
  joined = map_law t (among m.added) e set is_new_one n (length rows) (row_of rows) (live_of m.is_live) (live_of new.is_live) longer old_map pieces old_rows new_rows

  sets : with_edge (among m.added) e ≡ among new.added
  sets = set_is m.added e ∙ ap (λ (a : List ℕ). among a) (sym added_is)

  module _ (flags : length new.is_live ≡ length new.rows) (count : live_count new.is_live + length splits ≡ live_count m.is_live + length (fresh_rows e (lo_of t e) (hi_of t e) overs unders (row_of m.rows from) (row_of m.rows last)))
      (lowest : Renames n (length new.rows) (row_of new.rows) (is_lowest_at t) (named_of m.lowest) (named_of new.lowest)) (highest : Renames n (length new.rows) (row_of new.rows) (is_highest_at t) (named_of m.highest) (named_of new.highest)) where
    few : live_count new.is_live ≤ 3 * length new.added + 1
    few =
        let was = is_map.few in
        let q = numbered.many in
        let all = w.counted in
        let f = fresh_count m.rows e (lo_of t e) (hi_of t e) overs unders (row_of m.rows from) (row_of m.rows last) in
        let more : length new.added ≡ length m.added + 1 = ap (λ (a : List ℕ). length a) added_is ∙ length_push m.added e in
        let a = w.some_over in
        let b = w.some_under in
        let x = at_most (behind_left (row_of m.rows from).left (lo_of t e)) in
        let y = at_most (before_right (row_of m.rows last).right (hi_of t e)) in
        omega arith
      where
        at_most : (b : Bool) → (if b then 1 else 0) ≤ 1
        at_most true = omega arith
        at_most false = omega arith

    -- the names of the lowest and of the highest
    named_by : (up : Bool) (was now : List (Option ℕ)) → Names t (among m.added) n (row_of m.rows) (live_of m.is_live) (is_first_by t up) (named_of was) → Renames n (length new.rows) (row_of new.rows) (is_first_by t up) (named_of was) (named_of now) → Names t (among new.added) (length new.rows) (row_of new.rows) (live_of new.is_live) (is_first_by t up) (named_of now)
    named_by up was now names renames = subst (λ (A : ℕ → Bool). Names t A (length new.rows) (row_of new.rows) (live_of new.is_live) (is_first_by t up) (named_of now)) sets
        (subst (λ (rs : List Trap). Names t (with_edge (among m.added) e) (length rs) (row_of rs) (live_of new.is_live) (is_first_by t up) (named_of now)) (sym rows_is)
        (names_by t (among m.added) e set is_new_one n (length rows) (row_of rows) (live_of m.is_live) (live_of new.is_live) longer old_map pieces old_rows new_rows (named_of was) (named_of now) up
        (old_names (is_first_by t up) (named_of was) names) (subst (λ (rs : List Trap). Renames n (length rs) (row_of rs) (is_first_by t up) (named_of was) (named_of now)) rows_is renames)))

    pub is_map_of : IsMapOf t new
    is_map_of = record {
      calm = subst (λ (A : ℕ → Bool). IsCalmSet t A) sets set;
      flags = flags;
      map = subst (λ (A : ℕ → Bool). IsMap t A (length new.rows) (row_of new.rows) (live_of new.is_live)) sets
          (subst (λ (rs : List Trap). IsMap t (with_edge (among m.added) e) (length rs) (row_of rs) (live_of new.is_live)) (sym rows_is) joined);
      lowest = named_by true m.lowest new.lowest is_map.lowest lowest;
      highest = named_by false m.highest new.highest is_map.highest highest;
      few = few;
    }
