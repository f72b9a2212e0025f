-- The facts of adding an edge in the words of its code.
use Rattle.std.proofs.Common.{◌≡◌, ℕ, ◌+◌, ◌-◌, ◌<◌, ◌≤◌, Bool, true, false, not, ◌&&◌, List, [], ◌∷◌, ◌++◌, length, sym, ◌∙◌, ap, subst, arith}
use Rattle.std.proofs.lemmas.Bool.{not-true}
use Rattle.std.specs.Prelude.{IsTrue}
use Rattle.loc_spec_plane.specs.{declared.Trap.Trap, Points.conflict}
use Rattle.loc_spec_plane.specs.Tables.{Table, edge, lo_of, hi_of}
use Rattle.loc_laws_traps.specs.Sets.{IsCalmSet, with_edge, behind_left, is_lowest_at, is_highest_at}
use Rattle.loc_laws_traps.specs.Maps.{Renames}
use Rattle.loc_laws_traps.proofs.{Corners.is_first_by, Joined.joined_calm}
use Rattle.loc_traps.specs.{declared.map.Split.Split, declared.walk.Start.Start, declared.walk.Cut.Cut}
use Rattle.loc_traps.specs.Meaning.{MapMeaning, IsMapOf, row_of, live_of, named_of, among, live_count}
use Rattle.loc_traps.specs.{Names.IsNamable, Names.IsOneOfAKind, Walks.fresh_rows, Walks.IsWalk, Walks.IsNumbered}
use Rattle.loc_traps.specs.Splits.{split_of, is_cut_by, AreSplits, AllSendOn, IsAdded}
use Rattle.loc_traps.proofs.Joining.{are_splits, all_send_on, split_real, split_live, splits_single, are_namable, one_by}
use Rattle.loc_traps.proofs.Added.{is_added, is_map_of}

-- the set with the edge has no conflicts
pub calm_with : (t : Table) (m : MapMeaning) (e : ℕ) → IsMapOf t m → e < length t.ends → ((a : ℕ) → among m.added a ≡ true → IsTrue (not (conflict (edge t a) (edge t e)))) → IsCalmSet t (with_edge (among m.added) e)
calm_with t m e is_map real apart = joined_calm t (among m.added) e is_map.calm real (λ a is_a. not-true (conflict (edge t a) (edge t e)) (apart a is_a))

pub fresh_same : (e lo hi lo2 hi2 : ℕ) (overs unders : List Start) (first first2 last last2 : Trap) → lo ≡ lo2 → hi ≡ hi2 → first ≡ first2 → last ≡ last2 → fresh_rows e lo hi overs unders first last ≡ fresh_rows e lo2 hi2 overs unders first2 last2
fresh_same e lo hi lo2 hi2 overs unders first first2 last last2 same_lo same_hi same_first same_last =
    ap (λ (n : ℕ). fresh_rows e n hi overs unders first last) same_lo
    ∙ (ap (λ (n : ℕ). fresh_rows e lo2 n overs unders first last) same_hi ∙ (ap (λ (x : Trap). fresh_rows e lo2 hi2 overs unders x last) same_first ∙ ap (λ (x : Trap). fresh_rows e lo2 hi2 overs unders first2 x) same_last))

pub numbered_same : (rows rows2 : List Trap) (lo hi lo2 hi2 a b : ℕ) (first first2 : Trap) (cuts : List Cut) (splits : List Split) → rows ≡ rows2 → lo ≡ lo2 → hi ≡ hi2 → first ≡ first2 → IsNumbered rows lo hi a b (behind_left first.left lo) cuts splits → IsNumbered rows2 lo2 hi2 a b (behind_left first2.left lo2) cuts splits
numbered_same rows rows2 lo hi lo2 hi2 a b first first2 cuts splits same_rows same_lo same_hi same_first h =
    subst (λ (xs : List Trap). IsNumbered xs lo2 hi2 a b (behind_left first2.left lo2) cuts splits) same_rows
    (subst (λ (n : ℕ). IsNumbered rows n hi2 a b (behind_left first2.left n) cuts splits) same_lo
    (subst (λ (n : ℕ). IsNumbered rows lo n a b (behind_left first2.left lo) cuts splits) same_hi (subst (λ (x : Trap). IsNumbered rows lo hi a b (behind_left x.left lo) cuts splits) same_first h)))

-- what is written, in the words of the code
module _ (t : Table) (m : MapMeaning) (is_map : IsMapOf t m) (e : ℕ) (in_range : e < length t.ends) (apart : (a : ℕ) → among m.added a ≡ true → IsTrue (not (conflict (edge t a) (edge t e)))) (is_new_one : among m.added e ≡ false) (from last : ℕ) (overs unders : List Start) (cuts : List Cut)
    (w : IsWalk t m.added m.rows m.is_live e from last overs unders cuts) (lo hi : ℕ) (lo_is : lo ≡ lo_of t e) (hi_is : hi ≡ hi_of t e) (first : Trap) (first_is : first ≡ row_of m.rows from) (splits : List Split) (held : List Trap) (held_is : held ≡ m.rows)
    (numbers : IsNumbered held lo hi (length overs - 1) (length unders - 1) (behind_left first.left lo) cuts splits) where
  set : IsCalmSet t (with_edge (among m.added) e)
  set = calm_with t m e is_map in_range apart

  numbered : IsNumbered m.rows (lo_of t e) (hi_of t e) (length overs - 1) (length unders - 1) (behind_left (row_of m.rows from).left (lo_of t e)) cuts splits
  numbered = numbered_same held m.rows lo hi (lo_of t e) (hi_of t e) (length overs - 1) (length unders - 1) first (row_of m.rows from) cuts splits held_is lo_is hi_is first_is numbers

  module _ (lent : List Split) (lent_is : lent ≡ splits) where
    pub cut_rows : (is_live : List Bool) → is_live ≡ m.is_live → (j : ℕ) → j < length lent → (split_of lent j).cut < length is_live
    cut_rows is_live same = subst (λ (s : List Split). (j : ℕ) → j < length s → (split_of s j).cut < length is_live) (sym lent_is)
        (λ j less. (let v = ap length same in let f = is_map.flags in let real = split_real t m is_map e set is_new_one from last overs unders cuts w splits numbered j less in omega arith))

    pub live_rows : (is_live : List Bool) → is_live ≡ m.is_live → (j : ℕ) → j < length lent → live_of is_live (split_of lent j).cut ≡ true
    live_rows is_live same = subst (λ (s : List Split). (j : ℕ) → j < length s → live_of is_live (split_of s j).cut ≡ true) (sym lent_is)
        (λ j less. ap (λ (xs : List Bool). live_of xs (split_of splits j).cut) same ∙ split_live t m is_map e set is_new_one from last overs unders cuts w splits numbered j less)

    pub rows_apart : (i j : ℕ) → i < length lent → j < length lent → (split_of lent i).cut ≡ (split_of lent j).cut → i ≡ j
    rows_apart = subst (λ (s : List Split). (i j : ℕ) → i < length s → j < length s → (split_of s i).cut ≡ (split_of s j).cut → i ≡ j) (sym lent_is) (splits_single t m is_map e set is_new_one from last overs unders cuts w splits numbered)

  module _ (last_trap : Trap) (last_is : last_trap ≡ row_of m.rows last) (fresh : List Trap) (are_rows : fresh ≡ fresh_rows e lo hi overs unders first last_trap) (kept : List Trap) (kept_is : kept ≡ m.rows) where
    fresh_is : fresh ≡ fresh_rows e (lo_of t e) (hi_of t e) overs unders (row_of m.rows from) (row_of m.rows last)
    fresh_is = are_rows ∙ fresh_same e lo hi (lo_of t e) (hi_of t e) overs unders first (row_of m.rows from) last_trap (row_of m.rows last) lo_is hi_is first_is last_is

    -- what holds of the old rows and the new ones, holds of what the code has
    of_all : (P : List Trap → ℕ → Type 0) → P (m.rows ++ fresh_rows e (lo_of t e) (hi_of t e) overs unders (row_of m.rows from) (row_of m.rows last)) (length m.rows) → P (kept ++ fresh) (length kept)
    of_all P h = subst (λ (xs : List Trap). P (xs ++ fresh) (length xs)) (sym kept_is) (subst (λ (ys : List Trap). P (m.rows ++ ys) (length m.rows)) (sym fresh_is) h)

    pub namable : (i : ℕ) → length kept ≤ i → i < length (kept ++ fresh) → IsNamable t (hi_of t e + 1) (row_of (kept ++ fresh) i)
    namable = of_all (λ rows n. (i : ℕ) → n ≤ i → i < length rows → IsNamable t (hi_of t e + 1) (row_of rows i)) (are_namable t m is_map e set is_new_one from last overs unders cuts w)

    pub one_of_kind : (up : Bool) → IsOneOfAKind (length kept) (length (kept ++ fresh)) (row_of (kept ++ fresh)) (is_first_by t up)
    one_of_kind up = of_all (λ rows n. IsOneOfAKind n (length rows) (row_of rows) (is_first_by t up)) (one_by t m is_map e set is_new_one from last overs unders cuts w up)

    -- what was written is the map with the edge
    module _ (old new : MapMeaning) (old_is : old ≡ m) (lent : List Split) (lent_is : lent ≡ splits)
        (rows : new.rows ≡ old.rows ++ fresh) (added : new.added ≡ old.added ++ e ∷ []) (stays : (i : ℕ) → i < length old.rows → live_of new.is_live i ≡ (live_of old.is_live i && not (is_cut_by lent i))) (new_live : (i : ℕ) → length old.rows ≤ i → i < length new.rows → live_of new.is_live i ≡ true) where
      rows_are : new.rows ≡ m.rows ++ fresh_rows e (lo_of t e) (hi_of t e) overs unders (row_of m.rows from) (row_of m.rows last)
      rows_are = rows ∙ (ap (λ (o : MapMeaning). o.rows ++ fresh) old_is ∙ ap (λ (f : List Trap). m.rows ++ f) fresh_is)

      added_are : new.added ≡ m.added ++ e ∷ []
      added_are = added ∙ ap (λ (o : MapMeaning). o.added ++ e ∷ []) old_is

      stay : (i : ℕ) → i < length m.rows → live_of new.is_live i ≡ (live_of m.is_live i && not (is_cut_by splits i))
      stay = subst (λ (o : MapMeaning). (i : ℕ) → i < length o.rows → live_of new.is_live i ≡ (live_of o.is_live i && not (is_cut_by splits i))) old_is
          (subst (λ (s : List Split). (i : ℕ) → i < length old.rows → live_of new.is_live i ≡ (live_of old.is_live i && not (is_cut_by s i))) lent_is stays)

      come : (i : ℕ) → length m.rows ≤ i → i < length new.rows → live_of new.is_live i ≡ true
      come = subst (λ (o : MapMeaning). (i : ℕ) → length o.rows ≤ i → i < length new.rows → live_of new.is_live i ≡ true) old_is new_live

      pub added_there : IsAdded t e m new
      added_there = is_added t m is_map e set is_new_one from last overs unders cuts w splits numbered new rows_are added_are stay come

      pub splits_there : AreSplits t e (length m.rows) new.rows m.is_live splits
      splits_there = subst (λ (rs : List Trap). AreSplits t e (length m.rows) rs m.is_live splits) (sym rows_are) (are_splits t m is_map e set is_new_one from last overs unders cuts w splits numbered)

      pub sends_there : AllSendOn t e new.rows splits
      sends_there = subst (λ (rs : List Trap). AllSendOn t e rs splits) (sym rows_are) (all_send_on t m is_map e set is_new_one from last overs unders cuts w splits numbered)

      pub map_there : length new.is_live ≡ length new.rows → live_count new.is_live + length lent ≡ live_count old.is_live + length fresh
          → Renames (length old.rows) (length new.rows) (row_of new.rows) (is_lowest_at t) (named_of old.lowest) (named_of new.lowest) → Renames (length old.rows) (length new.rows) (row_of new.rows) (is_highest_at t) (named_of old.highest) (named_of new.highest) → IsMapOf t new
      map_there flags count lowest highest = is_map_of t m is_map e set is_new_one from last overs unders cuts w splits numbered new rows_are added_are stay come flags
          (ap (λ (s : List Split). live_count new.is_live + length s) (sym lent_is) ∙ (count ∙ (ap (λ (o : MapMeaning). live_count o.is_live + length fresh) old_is ∙ ap (λ (f : List Trap). live_count m.is_live + length f) fresh_is)))
          (subst (λ (o : MapMeaning). Renames (length o.rows) (length new.rows) (row_of new.rows) (is_lowest_at t) (named_of o.lowest) (named_of new.lowest)) old_is lowest)
          (subst (λ (o : MapMeaning). Renames (length o.rows) (length new.rows) (row_of new.rows) (is_highest_at t) (named_of o.highest) (named_of new.highest)) old_is highest)
