-- The end of the walk: what it has collected, with the edge's upper end as the last start on both sides.
use Rattle.std.proofs.Common.{◌≡◌, ℕ, suc, ◌+◌, ◌-◌, ◌<◌, Bool, true, false, List, [], ◌∷◌, ◌++◌, length, refl, sym, ◌∙◌, ap, subst, inl, arith}
use Rattle.std.specs.Prelude.{Some, None}
use Rattle.std.proofs.{lemmas.Bool.lt-ltb, lemmas.List.length_push}
use Rattle.loc_spec_plane.specs.{declared.Trap.Trap, Tables.Table, Tables.hi_of, Traps.is_trap}
use Rattle.loc_laws_traps.specs.Sets.{IsCalmSet, with_edge, before_right, is_cut, begins_in}
use Rattle.loc_laws_traps.specs.Maps.{IsMap}
use Rattle.loc_laws_traps.proofs.{Runs.before_is, Runs.before_less, Runs.run_of, Shapes.is_piece_by}
use Rattle.loc_laws_traps.proofs.{Adding.old, Adding.is_new, Adding.e_up, Parts.from_last, Walk.UpTo}
use Rattle.loc_laws_traps.proofs.{Add.cuts_from, Add.Common, Add.common, Seek.begin_law, Step.came_last}
use Rattle.loc_laws_traps.proofs.{Visits.same_cut, Visits.at_last, Fresh.rises_differ}
use Rattle.loc_laws_traps.proofs.Strips.{piece_at, Strip, strip_sound, strip_rises, strip_stands, strip_covers}
use Rattle.loc_traps.specs.{declared.walk.Start.Start, declared.walk.Cut.Cut}
use Rattle.loc_traps.specs.Meaning.{row_of, live_of, among}
use Rattle.loc_traps.specs.Walks.{start_of, cut_of, IsStrip, IsWalk}
use Rattle.loc_traps.proofs.Starts.{Reads, reads_less, reads_last}
use Rattle.loc_traps.proofs.Walking.{Bounds, Lefts, sides, number_on, AllRead, Seen, Walking, is_first, seen_more, single_more, complete_before}

module _ (t : Table) (added : List ℕ) (e : ℕ) (set : IsCalmSet t (with_edge (among added) e)) (fresh : among added e ≡ false) (rows : List Trap) (is_live : List Bool)
    (row : ℕ) (overs unders : List Start) (cuts : List Cut) (w : Walking t added e set fresh rows is_live row overs unders cuts) (at_end_of_e : UpTo (hi_of t e) (row_of rows row).right) where
  abbrev end_start : Start
  end_start = record { bound = None; left = hi_of t e }

  abbrev all_overs : List Start
  all_overs = overs ++ end_start ∷ []

  abbrev all_unders : List Start
  all_unders = unders ++ end_start ∷ []

  abbrev all_cuts : List Cut
  all_cuts = cuts ++ record { row = row; over = length overs - 1; under = length unders - 1 } ∷ []

  abbrev many : Bool → ℕ
  many d = length (sides overs unders d) - 1

  abbrev bounds : Bounds
  bounds d i = (start_of (sides overs unders d ++ end_start ∷ []) i).bound

  abbrev lefts : Lefts
  lefts d i = (start_of (sides overs unders d ++ end_start ∷ []) i).left

  one_less : (d : Bool) → length (sides overs unders d) ≡ suc (many d)
  one_less d = let s = w.some d in omega arith

  reads : (d : Bool) → Reads (sides overs unders d ++ end_start ∷ []) (suc (many d)) (bounds d) (lefts d)
  reads d = record { bound = λ i le. refl; left = λ i le. refl }

  old_reads : AllRead overs unders bounds lefts
  old_reads d = reads_less (sides overs unders d) end_start (many d) (one_less d) (bounds d) (lefts d) (suc (many d)) (omega arith) (reads d)

  last_left : (d : Bool) → lefts d (suc (many d)) ≡ hi_of t e
  last_left d = (reads_last (sides overs unders d) end_start (many d) (one_less d) (bounds d) (lefts d) (reads d)).1

  strip : (d : Bool) → Strip t (among added) e set fresh d (bounds d) (lefts d) (many d) (row_of rows row) w.starts w.walked.to
  strip d = w.strip d (bounds d) (lefts d) (old_reads d)

  abbrev piece_row : Bool → ℕ → Trap
  piece_row d i = piece_at t (among added) e set fresh d (bounds d) (lefts d) i

  more : (d : Bool) → length (sides overs unders d ++ end_start ∷ []) - 1 ≡ suc (many d)
  more d = let l = length_push (sides overs unders d) end_start in let s = w.some d in omega arith

  left_same : (a b : Trap) (c d : ℕ) → a ≡ b → a.left ≡ Some c → b.left ≡ Some d → c ≡ d
  left_same a b c d same at_a at_b = some_same (sym at_a ∙ (ap (λ (x : Trap). x.left) same ∙ at_b))
    where
      some_same : Some c ≡ Some d → c ≡ d
      some_same h = cc

  is_strip : (d : Bool) → IsStrip t added e (length (sides overs unders d ++ end_start ∷ []) - 1) (piece_row d) (is_piece_by t d e)
  is_strip d = subst (λ n. IsStrip t added e n (piece_row d) (is_piece_by t d e)) (sym (more d)) (record {
    sound = strip_sound t (among added) e set fresh d (bounds d) (lefts d) (many d) (row_of rows row) w.starts w.walked at_end_of_e (strip d) (last_left d);
    single = λ i j less_i less_j same.
        rises_differ (lefts d) (many d) (strip_rises t (among added) e set fresh d (bounds d) (lefts d) (many d) (row_of rows row) w.starts w.walked at_end_of_e (strip d) (last_left d)) i j less_i less_j (left_same (piece_row d i) (piece_row d j) (lefts d i) (lefts d j) same refl refl);
    complete = strip_covers t (among added) e set fresh d (bounds d) (lefts d) (many d) (row_of rows row) w.starts w.walked at_end_of_e (strip d) (last_left d);
  })

  come : w.walked.to ≡ hi_of t e
  come = came_last t (among added) e set fresh (row_of rows row) w.starts w.walked at_end_of_e

  all_seen : (j : ℕ) → j < length all_cuts → Seen t added e set fresh rows is_live (cut_of all_cuts j) (hi_of t e) many bounds lefts
  all_seen j less = seen_more t added e set fresh rows is_live row overs unders cuts w (hi_of t e) come many bounds lefts old_reads (λ d. inl refl) j less

  -- the pieces of a cut row stand for it
  has_piece : (d : Bool) (j : ℕ) → j < length all_cuts → (number_on d (cut_of all_cuts j) + 1 < length (sides overs unders d ++ end_start ∷ [])) × (is_piece_by t d e (row_of rows (cut_of all_cuts j).row) (piece_row d (number_on d (cut_of all_cuts j))) ≡ true)
  has_piece d j less =
      let s = all_seen j less in
      let p = (s.pieces d).place in
      let l = length_push (sides overs unders d) end_start in
      let o = w.some d in
      (omega arith, strip_stands t (among added) e set fresh d (bounds d) (lefts d) (many d) (row_of rows row) w.starts w.walked at_end_of_e (strip d) (last_left d) (row_of rows (cut_of all_cuts j).row) s.place (number_on d (cut_of all_cuts j)) s.is_one s.cuts_it s.at (s.pieces d))

  -- a cut trapezoid out of which the edge does not go at its upper end is the last one
  is_last : (trap : Trap) → is_trap t (among added) trap ≡ true → is_cut t e trap ≡ true → before_right trap.right (hi_of t e) ≡ true → trap ≡ row_of rows row
  is_last trap is_one is_cut_one right =
      let up = e_up t (among added) e set fresh in
      let cuts_it = cuts_from t (among added) e set fresh trap is_cut_one in
      let one : hi_of t e ≡ (hi_of t e - 1) + 1 = (let u = up.0 in omega arith) in
      same_cut t (among added) e set fresh trap (row_of rows row) (hi_of t e - 1) is_one is_cut_one w.walked.is_one w.walked.cuts_it
      (record {
        from = from_last trap.left (hi_of t e - 1) (hi_of t e) one cuts_it.ends_behind;
        before = before_less (hi_of t e - 1) (hi_of t e) trap.right (omega arith) (before_is (hi_of t e) trap.right right);
        begun = (let u = up.0 in omega arith);
        ends = (let u = up.0 in omega arith);
      })
      (subst (λ c. Common t (among added) e set fresh (row_of rows row).left (row_of rows row).right (c - 1)) come (at_last t (among added) e set fresh (row_of rows row) w.starts w.walked))

  module _ (map : IsMap t (among added) (length rows) (row_of rows) (live_of is_live)) (from : ℕ) (real : from < length rows) (live : live_of is_live from ≡ true) (begins : begins_in t e (row_of rows from) ≡ true) where
    complete : (i : ℕ) → i < length rows → live_of is_live i ≡ true → is_cut t e (row_of rows i) ≡ true → (j : ℕ) × (j < length all_cuts) × ((cut_of all_cuts j).row ≡ i)
    complete i less alive cut =
        let is_one = map.sound i less alive in
        let run = run_of t (among added) (old t (among added) e set fresh) (row_of rows i) is_one in
        let c = common t (among added) e set fresh (row_of rows i).left (row_of rows i).bottom (row_of rows i).top (row_of rows i).right run (cuts_from t (among added) e set fresh (row_of rows i) cut) in
        let found = complete_before t added e set fresh rows is_live row overs unders cuts w (hi_of t e) come (row_of rows i) c.0 is_one cut c.1 c.1.ends in
        let s = all_seen found.0 found.1 in
        (found.0, found.1, map.single (cut_of all_cuts found.0).row i s.real less s.live alive found.2)

    -- what the walk gives
    pub walking_ends : IsWalk t added rows is_live e from row all_overs all_unders all_cuts
    walking_ends =
        let o = length_push overs end_start in
        let u = length_push unders end_start in
        let a = w.some true in
        let b = w.some false in
        let counted = w.counted in
        let more_cuts = length_push cuts (record { row = row; over = length overs - 1; under = length unders - 1 }) in
        let from_is_one = map.sound from real live in
        let is_e = lt-ltb e (length t.ends) (set.within e (is_new t (among added) e set fresh)) in
        record {
          over_strip = is_strip true;
          under_strip = is_strip false;
          counted = omega arith;
          some_over = omega arith;
          some_under = omega arith;
          live = λ j less. (let s = all_seen j less in (s.real, s.live, s.cuts_it));
          over = has_piece true;
          under = has_piece false;
          complete = complete;
          single = single_more t added e set fresh rows is_live row overs unders cuts w (hi_of t e) come;
          first_live = (real, live);
          is_first = is_first t added e set fresh rows is_live from real live from_is_one begins;
          first_cut = begin_law t set.is_table e is_e (row_of rows from) begins;
          last_live = (w.real, w.live);
          is_last = is_last;
          last_cut = w.walked.cuts_it;
        }
