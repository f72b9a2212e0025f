-- The new rows of a walk are the pieces of the cut trapezoids, each once, and the splits tell them.
use Rattle.std.proofs.Common.{◌≡◌, ℕ, ◌+◌, ◌-◌, ◌<◌, ◌≤◌, Bool, true, false, ◌||◌, List, length, refl, sym, ◌∙◌, ap, subst, inl, inr, arith}
use Rattle.std.specs.Prelude.{Option, Some, None, IfSome, IsSomeAnd}
use Rattle.std.specs.Bool.{then_some}
use Rattle.std.proofs.lemmas.Bool.{and_parts, lt-ltb, both_ways}
use Rattle.loc_spec_plane.specs.{declared.Trap.Trap, Points.Point, Points.before}
use Rattle.loc_spec_plane.specs.{Tables.Table, Tables.lo_of, Tables.hi_of, Traps.is_trap}
use Rattle.loc_laws_traps.specs.Sets.{IsCalmSet, with_edge, behind_left, before_right, up_to_bound, from_bound, is_cut, part_before, part_behind, spans, is_over_piece, is_under_piece, is_inside}
use Rattle.loc_laws_traps.specs.{Laws.IsPieceOf, Maps.AreFresh}
use Rattle.loc_laws_traps.proofs.{Facts.Live, Cells.OfBound, Cells.end_real, Runs.behind_is, Runs.Run, Runs.run_of}
use Rattle.loc_laws_traps.proofs.{Shapes.piece_parts, Shapes.left_spanned, Adding.is_new, Adding.e_up}
use Rattle.loc_laws_traps.proofs.{Add.cuts_from, Add.cut_law, Corners.is_first_by, Corners.one_first}
use Rattle.loc_laws_traps.proofs.{Sends.send_law, Sends.real_law, Maps.no_old_bound, Fresh.has_cut, Fresh.not_both}
use Rattle.loc_traps.specs.{declared.map.Split.Split, declared.walk.Start.Start, declared.walk.Cut.Cut}
use Rattle.loc_traps.specs.Meaning.{MapMeaning, IsMapOf, row_of, live_of, among}
use Rattle.loc_traps.specs.Names.{IsNamable, IsOneOfAKind}
use Rattle.loc_traps.specs.Splits.{split_of, IsPart, IsSplitOf, AreSplits, AllSendOn}
use Rattle.loc_traps.specs.Walks.{cut_of, over_row, under_row, IsWalk, IsNumbered}
use Rattle.loc_traps.proofs.Rows.{all_rows, has_before, old_row, over_number, under_number, before_number, behind_number, IsOver, IsUnder, IsBefore, IsBehind, IsNew, new_row}

-- ---- bounds
-- the bounds of a trapezoid are edges of the set
bound_real : (t : Table) (A : ℕ → Bool) (set : IsCalmSet t A) (k : ℕ) (bound : Option ℕ) → OfBound (λ a. Live t A set a k) bound → IfSome bound (λ e. e < length t.ends)
bound_real t A set k None live = tt
bound_real t A set k (Some a) live = set.within a live.is_among

none_real : (t : Table) (bound : Option ℕ) → bound ≡ None → IfSome bound (λ e. e < length t.ends)
none_real t None h = tt
none_real t (Some a) h = absurd (cc)

bounds_real : (t : Table) (A : ℕ → Bool) (set : IsCalmSet t A) (left bottom top right : Option ℕ) → Run t A set left bottom top right → IfSome bottom (λ e. e < length t.ends) × IfSome top (λ e. e < length t.ends)
bounds_real t A set None bottom top right run = let none = run.leftmost refl in (none_real t bottom none.0, none_real t top none.1)
bounds_real t A set (Some c) bottom top right run =
    let cell = run.cells c (omega arith) run.some_cell (end_real t A set c run.opens.is_end) in
    (bound_real t A set c bottom cell.low, bound_real t A set c top cell.high)

left_before : (left : Option ℕ) (c k : ℕ) → left ≡ Some c → behind_left left k ≡ true → c < k
left_before left c k at h = subst (OfBound (λ d. d < k)) at (behind_is left k h)

some_left : (left : Option ℕ) (n : ℕ) → ((c : ℕ) → left ≡ Some c → c < n) → IfSome left (λ c. c < n)
some_left None n h = tt
some_left (Some c) n h = h c refl

module _ (t : Table) (m : MapMeaning) (is_map : IsMapOf t m) (e : ℕ) (set : IsCalmSet t (with_edge (among m.added) e)) (is_new_one : among m.added e ≡ false) (from last : ℕ) (overs unders : List Start) (cuts : List Cut)
    (w : IsWalk t m.added m.rows m.is_live e from last overs unders cuts) where
  abbrev first_trap : Trap
  first_trap = row_of m.rows from

  abbrev last_trap : Trap
  last_trap = row_of m.rows last

  abbrev rows : List Trap
  rows = all_rows m.rows e (lo_of t e) (hi_of t e) overs unders first_trap last_trap

  abbrev n : ℕ
  n = length m.rows

  abbrev is_one : Trap → Type 0
  is_one trap = is_trap t (with_edge (among m.added) e) trap ≡ true

  abbrev New : ℕ → Trap → Type 0
  New = IsNew m.rows e (lo_of t e) (hi_of t e) overs unders first_trap last_trap

  up : lo_of t e < hi_of t e
  up = (e_up t (among m.added) e set is_new_one).0

  first_is : is_trap t (among m.added) first_trap ≡ true
  first_is = is_map.map.sound from w.first_live.0 w.first_live.1

  last_is : is_trap t (among m.added) last_trap ≡ true
  last_is = is_map.map.sound last w.last_live.0 w.last_live.1

  new_sound : (i : ℕ) (trap : Trap) → New i trap → is_one trap
  new_sound i trap (inl over) = subst (λ (x : Trap). is_one x) (sym over.3) (w.over_strip.sound over.0 over.1)
  new_sound i trap (inr (inl under)) = subst (λ (x : Trap). is_one x) (sym under.3) (w.under_strip.sound under.0 under.1)
  new_sound i trap (inr (inr (inl before))) = subst (λ (x : Trap). is_one x) (sym before.2) ((cut_law t (among m.added) e set is_new_one first_trap first_is w.first_cut).before before.1)
  new_sound i trap (inr (inr (inr behind))) = subst (λ (x : Trap). is_one x) (sym behind.2) ((cut_law t (among m.added) e set is_new_one last_trap last_is w.last_cut).behind behind.1)

  new_piece : (i : ℕ) (trap : Trap) → New i trap → (cut : Trap) × IsPieceOf t (among m.added) e cut trap
  new_piece i trap (inl over) = has_cut t (among m.added) e set is_new_one true trap (new_sound i trap (inl over)) (ap (λ (x : Trap). x.bottom) over.3)
  new_piece i trap (inr (inl under)) = has_cut t (among m.added) e set is_new_one false trap (new_sound i trap (inr (inl under))) (ap (λ (x : Trap). x.top) under.3)
  new_piece i trap (inr (inr (inl before))) = (first_trap, record { was = first_is; is_cut = w.first_cut; kind = inl (before.1, before.2) })
  new_piece i trap (inr (inr (inr behind))) = (last_trap, record { was = last_is; is_cut = w.last_cut; kind = inr (inl (behind.1, behind.2)) })

  -- ---- no two new rows are equal
  abbrev Over : ℕ → Trap → Type 0
  Over = IsOver m.rows e (lo_of t e) (hi_of t e) overs unders first_trap last_trap

  abbrev Under : ℕ → Trap → Type 0
  Under = IsUnder m.rows e (lo_of t e) (hi_of t e) overs unders first_trap last_trap

  abbrev Before : ℕ → Trap → Type 0
  Before = IsBefore m.rows e (lo_of t e) (hi_of t e) overs unders first_trap last_trap

  abbrev Behind : ℕ → Trap → Type 0
  Behind = IsBehind m.rows e (lo_of t e) (hi_of t e) overs unders first_trap last_trap

  over_under : (i j : ℕ) (trap : Trap) → Over i trap → Under j trap → ⊥
  over_under i j trap over under = not_both t (among m.added) e set is_new_one trap.left trap.bottom trap.top trap.right (run_of t (with_edge (among m.added) e) set trap (new_sound i trap (inl over))) (ap (λ (x : Trap). x.bottom) over.3) (ap (λ (x : Trap). x.top) under.3)

  over_before : (i j : ℕ) (trap : Trap) → Over i trap → Before j trap → ⊥
  over_before i j trap over other = no_old_bound t (among m.added) e set is_new_one true first_trap first_is (sym (ap (λ (x : Trap). x.bottom) other.2) ∙ ap (λ (x : Trap). x.bottom) over.3)

  over_behind : (i j : ℕ) (trap : Trap) → Over i trap → Behind j trap → ⊥
  over_behind i j trap over other = no_old_bound t (among m.added) e set is_new_one true last_trap last_is (sym (ap (λ (x : Trap). x.bottom) other.2) ∙ ap (λ (x : Trap). x.bottom) over.3)

  under_before : (i j : ℕ) (trap : Trap) → Under i trap → Before j trap → ⊥
  under_before i j trap under other = no_old_bound t (among m.added) e set is_new_one false first_trap first_is (sym (ap (λ (x : Trap). x.top) other.2) ∙ ap (λ (x : Trap). x.top) under.3)

  under_behind : (i j : ℕ) (trap : Trap) → Under i trap → Behind j trap → ⊥
  under_behind i j trap under other = no_old_bound t (among m.added) e set is_new_one false last_trap last_is (sym (ap (λ (x : Trap). x.top) other.2) ∙ ap (λ (x : Trap). x.top) under.3)

  before_behind : (i j : ℕ) (trap : Trap) → Before i trap → Behind j trap → ⊥
  before_behind i j trap one other =
      let left : first_trap.left ≡ Some (hi_of t e) = sym (ap (λ (x : Trap). x.left) one.2) ∙ ap (λ (x : Trap). x.left) other.2 in
      let less = left_before first_trap.left (hi_of t e) (lo_of t e) left one.1 in
      let u = up in
      absurd (omega arith)

  one_number : (i j : ℕ) (trap : Trap) → New i trap → New j trap → i ≡ j
  one_number i j trap (inl a) (inl b) = let same = w.over_strip.single a.0 b.0 a.1 b.1 (sym a.3 ∙ b.3) in let x = a.2 in let y = b.2 in omega arith
  one_number i j trap (inl a) (inr (inl b)) = absurd (over_under i j trap a b)
  one_number i j trap (inl a) (inr (inr (inl b))) = absurd (over_before i j trap a b)
  one_number i j trap (inl a) (inr (inr (inr b))) = absurd (over_behind i j trap a b)
  one_number i j trap (inr (inl a)) (inl b) = absurd (over_under j i trap b a)
  one_number i j trap (inr (inl a)) (inr (inl b)) = let same = w.under_strip.single a.0 b.0 a.1 b.1 (sym a.3 ∙ b.3) in let x = a.2 in let y = b.2 in omega arith
  one_number i j trap (inr (inl a)) (inr (inr (inl b))) = absurd (under_before i j trap a b)
  one_number i j trap (inr (inl a)) (inr (inr (inr b))) = absurd (under_behind i j trap a b)
  one_number i j trap (inr (inr (inl a))) (inl b) = absurd (over_before j i trap b a)
  one_number i j trap (inr (inr (inl a))) (inr (inl b)) = absurd (under_before j i trap b a)
  one_number i j trap (inr (inr (inl a))) (inr (inr (inl b))) = let x = a.0 in let y = b.0 in omega arith
  one_number i j trap (inr (inr (inl a))) (inr (inr (inr b))) = absurd (before_behind i j trap a b)
  one_number i j trap (inr (inr (inr a))) (inl b) = absurd (over_behind j i trap b a)
  one_number i j trap (inr (inr (inr a))) (inr (inl b)) = absurd (under_behind j i trap b a)
  one_number i j trap (inr (inr (inr a))) (inr (inr (inl b))) = absurd (before_behind j i trap b a)
  one_number i j trap (inr (inr (inr a))) (inr (inr (inr b))) = let x = a.0 in let y = b.0 in omega arith

  at_number : (i : ℕ) → n ≤ i → i < length rows → New i (row_of rows i)
  at_number = new_row m.rows e (lo_of t e) (hi_of t e) overs unders first_trap last_trap

  -- ---- the numbers of the pieces of a cut trapezoid
  over_at : (k : ℕ) → k < length overs - 1 → (n + k < length rows) × (row_of rows (n + k) ≡ over_row e overs k)
  over_at = over_number m.rows e (lo_of t e) (hi_of t e) overs unders first_trap last_trap

  under_at : (k : ℕ) → k < length unders - 1 → (n + (length overs - 1) + k < length rows) × (row_of rows (n + (length overs - 1) + k) ≡ under_row e unders k)
  under_at = under_number m.rows e (lo_of t e) (hi_of t e) overs unders first_trap last_trap

  abbrev before_at : ℕ
  before_at = n + (length overs - 1) + (length unders - 1)

  abbrev behind_at : ℕ
  behind_at = n + (length overs - 1) + (length unders - 1) + has_before m.rows e (lo_of t e) (hi_of t e) overs unders first_trap last_trap

  part_before_there : (cut : Trap) → is_trap t (among m.added) cut ≡ true → is_cut t e cut ≡ true → behind_left cut.left (lo_of t e) ≡ true → (before_at < length rows) × (row_of rows before_at ≡ part_before cut (lo_of t e))
  part_before_there cut is_old_one is_cut_one left =
      let same = w.is_first cut is_old_one is_cut_one left in
      let there = before_number m.rows e (lo_of t e) (hi_of t e) overs unders first_trap last_trap (subst (λ (x : Trap). behind_left x.left (lo_of t e) ≡ true) same left) in
      (there.0, there.1 ∙ ap (λ (x : Trap). part_before x (lo_of t e)) (sym same))

  part_behind_there : (cut : Trap) → is_trap t (among m.added) cut ≡ true → is_cut t e cut ≡ true → before_right cut.right (hi_of t e) ≡ true → (behind_at < length rows) × (row_of rows behind_at ≡ part_behind cut (hi_of t e))
  part_behind_there cut is_old_one is_cut_one right =
      let same = w.is_last cut is_old_one is_cut_one right in
      let there = behind_number m.rows e (lo_of t e) (hi_of t e) overs unders first_trap last_trap (subst (λ (x : Trap). before_right x.right (hi_of t e) ≡ true) same right) in
      (there.0, there.1 ∙ ap (λ (x : Trap). part_behind x (hi_of t e)) (sym same))

  -- the new rows are the pieces
  pub are_fresh : AreFresh t (among m.added) e n (length rows) (row_of rows)
  are_fresh = record {
    sound = λ i le less. new_sound i (row_of rows i) (at_number i le less);
    pieces = λ i le less. new_piece i (row_of rows i) (at_number i le less);
    single = λ i j le_i le_j less_i less_j same. one_number i j (row_of rows i) (at_number i le_i less_i) (subst (λ (x : Trap). New j x) (sym same) (at_number j le_j less_j));
    before = λ cut is_old_one is_cut_one left. (let there = part_before_there cut is_old_one is_cut_one left in (before_at, omega arith, there.0, there.1));
    behind = λ cut is_old_one is_cut_one right. (let there = part_behind_there cut is_old_one is_cut_one right in (behind_at, omega arith, there.0, there.1));
    above = λ cut is_old_one is_cut_one.
        (let piece = w.over_strip.complete cut is_old_one is_cut_one in
        let there = over_at piece.0 piece.1 in
        (n + piece.0, omega arith, there.0, subst (λ (x : Trap). is_over_piece t e cut x ≡ true) (sym there.1) piece.2));
    below = λ cut is_old_one is_cut_one.
        (let piece = w.under_strip.complete cut is_old_one is_cut_one in
        let there = under_at piece.0 piece.1 in
        (n + (length overs - 1) + piece.0, omega arith, there.0, subst (λ (x : Trap). is_under_piece t e cut x ≡ true) (sym there.1) piece.2));
  }

  -- ---- they can be named
  left_within : (cut trap : Trap) (c : ℕ) → IsPieceOf t (among m.added) e cut trap → trap.left ≡ Some c → c < hi_of t e + 1
  left_within cut trap c piece at = elim piece.kind [
    | inl part ↦ (let less = left_before cut.left c (lo_of t e) (sym (ap (λ (x : Trap). x.left) part.1) ∙ at) part.0 in let u = up in omega arith)
    | inr rest ↦ elim rest [
      | inl part ↦ (let same : Some (hi_of t e) ≡ Some c = sym (ap (λ (x : Trap). x.left) part.1) ∙ at in let is : hi_of t e ≡ c = cc in omega arith)
      | inr with_e ↦ (let less : c < hi_of t e = subst (OfBound (λ d. d < hi_of t e)) at (early (elim with_e [ inl over ↦ (piece_parts t true e cut trap over).2 | inr under ↦ (piece_parts t false e cut trap under).2 ])) in omega arith)
    ]
  ]
    where
      early : spans t e cut trap ≡ true → OfBound (λ d. d < hi_of t e) trap.left
      early s = left_spanned (λ d. d < hi_of t e) (λ d k le h. omega arith) (lo_of t e) up trap.left cut.left (cuts_from t (among m.added) e set is_new_one cut piece.is_cut).ends_behind
          (and_parts (up_to_bound trap.left (Some (lo_of t e)) || up_to_bound trap.left cut.left) (from_bound trap.right (Some (hi_of t e)) || from_bound trap.right cut.right) s).0

  pub are_namable : (i : ℕ) → n ≤ i → i < length rows → IsNamable t (hi_of t e + 1) (row_of rows i)
  are_namable i le less =
      let piece = are_fresh.pieces i le less in
      let trap = row_of rows i in
      let real = bounds_real t (with_edge (among m.added) e) set trap.left trap.bottom trap.top trap.right (run_of t (with_edge (among m.added) e) set trap (are_fresh.sound i le less)) in
      record { left = some_left trap.left (hi_of t e + 1) (λ c at. left_within piece.0 trap c piece.1 at); bottom = real.0; top = real.1 }

  pub one_by : (up : Bool) → IsOneOfAKind n (length rows) (row_of rows) (is_first_by t up)
  one_by up c i j le_i less_i le_j less_j h g = are_fresh.single i j le_i le_j less_i less_j (one_first t (with_edge (among m.added) e) set up c (row_of rows i) (row_of rows j) (are_fresh.sound i le_i less_i) (are_fresh.sound j le_j less_j) h g)

  pub old_stays : (i : ℕ) → i < n → row_of rows i ≡ row_of m.rows i
  old_stays = old_row m.rows e (lo_of t e) (hi_of t e) overs unders first_trap last_trap

  -- ---- the splits
  part_is : (b : Bool) (part : Trap) (number : ℕ) → n ≤ number → (b ≡ true → (number < length rows) × (row_of rows number ≡ part)) → IsPart b part n rows (then_some b number)
  part_is true part number le h = let there = h refl in (refl, le, there.0, there.1)
  part_is false part number le h = refl

  module _ (splits : List Split) (numbered : IsNumbered m.rows (lo_of t e) (hi_of t e) (length overs - 1) (length unders - 1) (behind_left first_trap.left (lo_of t e)) cuts splits) where
    same_cut : (j : ℕ) → j < length splits → (split_of splits j).cut ≡ (cut_of cuts j).row
    same_cut j less = (numbered.each j (let q = numbered.many in omega arith)).row

    pub split_real : (j : ℕ) → j < length splits → (split_of splits j).cut < n
    split_real j less = let q = numbered.many in subst (λ i. i < n) (sym (same_cut j less)) (w.live j (omega arith)).0

    pub split_live : (j : ℕ) → j < length splits → live_of m.is_live (split_of splits j).cut ≡ true
    split_live j less = let q = numbered.many in subst (λ i. live_of m.is_live i ≡ true) (sym (same_cut j less)) (w.live j (omega arith)).1

    pub split_cuts : (j : ℕ) → j < length splits → is_cut t e (row_of m.rows (split_of splits j).cut) ≡ true
    split_cuts j less = let q = numbered.many in subst (λ i. is_cut t e (row_of m.rows i) ≡ true) (sym (same_cut j less)) (w.live j (omega arith)).2

    pub splits_single : (i j : ℕ) → i < length splits → j < length splits → (split_of splits i).cut ≡ (split_of splits j).cut → i ≡ j
    splits_single i j less_i less_j same = let q = numbered.many in w.single i j (omega arith) (omega arith) (sym (same_cut i less_i) ∙ (same ∙ same_cut j less_j))

    pub splits_complete : (i : ℕ) → i < n → live_of m.is_live i ≡ true → is_cut t e (row_of m.rows i) ≡ true → (j : ℕ) × (j < length splits) × ((split_of splits j).cut ≡ i)
    splits_complete i less live cut =
        let q = numbered.many in
        let found = w.complete i less live cut in
        let there : found.0 < length splits = (let l = found.1 in omega arith) in
        (found.0, there, same_cut found.0 there ∙ found.2)

    tells : (j : ℕ) → j < length splits → IsSplitOf t e n rows (split_of splits j)
    tells j less =
        let q = numbered.many in
        let real : j < length cuts = omega arith in
        let row = (cut_of cuts j).row in
        let at = numbered.each j real in
        let alive = w.live j real in
        let is_old_one = is_map.map.sound row alive.0 alive.1 in
        let over = w.over j real in
        let under = w.under j real in
        let over_there = over_at (cut_of cuts j).over (let l = over.0 in omega arith) in
        let under_there = under_at (cut_of cuts j).under (let l = under.0 in omega arith) in
        let trap : row_of rows (split_of splits j).cut ≡ row_of m.rows row = ap (λ i. row_of rows i) at.row ∙ old_stays row alive.0 in
        record {
          before = subst (λ (x : Trap). IsPart (behind_left x.left (lo_of t e)) (part_before x (lo_of t e)) n rows (split_of splits j).before) (sym trap)
              (subst (λ (o : Option ℕ). IsPart (behind_left (row_of m.rows row).left (lo_of t e)) (part_before (row_of m.rows row) (lo_of t e)) n rows o) (sym at.before)
              (part_is (behind_left (row_of m.rows row).left (lo_of t e)) (part_before (row_of m.rows row) (lo_of t e)) before_at (omega arith) (λ left. part_before_there (row_of m.rows row) is_old_one alive.2 left)));
          behind = subst (λ (x : Trap). IsPart (before_right x.right (hi_of t e)) (part_behind x (hi_of t e)) n rows (split_of splits j).behind) (sym trap)
              (subst (λ (o : Option ℕ). IsPart (before_right (row_of m.rows row).right (hi_of t e)) (part_behind (row_of m.rows row) (hi_of t e)) n rows o) (sym at.behind)
              (part_is (before_right (row_of m.rows row).right (hi_of t e)) (part_behind (row_of m.rows row) (hi_of t e)) behind_at (omega arith) (λ right. part_behind_there (row_of m.rows row) is_old_one alive.2 right)));
          above = subst (λ (x : Trap). is_over_piece t e x (row_of rows (split_of splits j).above) ≡ true) (sym trap)
              (subst (λ (x : Trap). is_over_piece t e (row_of m.rows row) x ≡ true) (sym (ap (λ i. row_of rows i) at.above ∙ over_there.1)) over.1);
          above_new = (let a = at.above in let l = over_there.0 in (omega arith, omega arith));
          below = subst (λ (x : Trap). is_under_piece t e x (row_of rows (split_of splits j).below) ≡ true) (sym trap)
              (subst (λ (x : Trap). is_under_piece t e (row_of m.rows row) x ≡ true) (sym (ap (λ i. row_of rows i) at.below ∙ under_there.1)) under.1);
          below_new = (let a = at.below in let l = under_there.0 in (omega arith, omega arith));
        }

    pub are_splits : AreSplits t e n rows m.is_live splits
    are_splits = record {
      tells = tells;
      cuts = λ j less. (split_real j less, split_live j less, subst (λ (x : Trap). is_cut t e x ≡ true) (sym (old_stays (split_of splits j).cut (split_real j less))) (split_cuts j less));
      complete = λ i less live cut. splits_complete i less live (subst (λ (x : Trap). is_cut t e x ≡ true) (old_stays i less) cut);
      single = splits_single;
    }

    -- a part that is there
    part_inside : (there : Bool) (part : Trap) (p : Point) (o : Option ℕ) → IsPart there part n rows o → there ≡ true → is_inside t part p ≡ true → IsSomeAnd o (λ i. is_inside t (row_of rows i) p ≡ true)
    part_inside there part p None h is_there inside = absurd (both_ways there h is_there)
    part_inside there part p (Some i) h is_there inside = subst (λ (x : Trap). is_inside t x p ≡ true) (sym h.3) inside

    pub all_send_on : AllSendOn t e rows splits
    all_send_on j less p inside =
        let q = numbered.many in
        let split = split_of splits j in
        let cut = row_of rows split.cut in
        let s = tells j less in
        let is_e = lt-ltb e (length t.ends) (set.within e (is_new t (among m.added) e set is_new_one)) in
        let is_old_one : is_trap t (among m.added) cut ≡ true = subst (λ (x : Trap). is_trap t (among m.added) x ≡ true) (sym (old_stays split.cut (split_real j less))) (is_map.map.sound split.cut (split_real j less) (split_live j less)) in
        let sends = send_law t set.is_table e is_e cut (real_law t (among m.added) is_map.calm cut is_old_one) p inside in
        record {
          before_it = λ early. (let there = sends.before_it early in part_inside (behind_left cut.left (lo_of t e)) (part_before cut (lo_of t e)) p split.before s.before there.0 there.1);
          behind_it = λ late. (let there = sends.behind_it late in part_inside (before_right cut.right (hi_of t e)) (part_behind cut (hi_of t e)) p split.behind s.behind there.0 there.1);
          above_it = λ behind before_end above. sends.above_it (row_of rows split.above) (real_law t (with_edge (among m.added) e) set (row_of rows split.above) (are_fresh.sound split.above s.above_new.0 s.above_new.1)) s.above behind before_end above;
          below_it = λ behind before_end below. sends.below_it (row_of rows split.below) (real_law t (with_edge (among m.added) e) set (row_of rows split.below) (are_fresh.sound split.below s.below_new.0 s.below_new.1)) s.below behind before_end below;
        }
