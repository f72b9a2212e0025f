-- The steps of the walk in the words of its code.
use Rattle.std.proofs.Common.{◌≡◌, ℕ, ◌-◌, ◌<◌, ◌≤◌, Bool, true, false, not, List, [], ◌∷◌, ◌++◌, length, refl, sym, ◌∙◌, ap, subst, inl, inr, arith}
use Rattle.std.specs.Prelude.{Option, Some, None, IsSome}
use Rattle.std.proofs.lemmas.Bool.{both_ways}
use Rattle.loc_spec_plane.specs.{declared.Trap.Trap, Points.is_above, Traps.is_set_end}
use Rattle.loc_spec_plane.specs.Tables.{Table, corner, edge, lo_of, hi_of}
use Rattle.loc_laws_traps.specs.{Sets.IsCalmSet, Sets.with_edge, Sets.begins_in, Maps.Names}
use Rattle.loc_laws_traps.proofs.{Turns.above_by, Turns.far, Cells.OfBound, Cells.Wall, Cells.end_real, Runs.run_of}
use Rattle.loc_laws_traps.proofs.{Adding.old, Walk.UpTo, Step.come_to}
use Rattle.loc_laws_traps.proofs.Corners.{is_first_by, first_parts, sides_of, next_by}
use Rattle.loc_traps.specs.{declared.walk.Start.Start, declared.walk.Cut.Cut, Walks.IsPassed, Walks.IsWalk}
use Rattle.loc_traps.specs.Meaning.{MapMeaning, IsMapOf, row_of, live_of, named_of, among}
use Rattle.loc_traps.proofs.Ending.{walking_ends}
use Rattle.loc_traps.proofs.Walking.{Walking, sides, longer, walking_starts, walking_goes_on, walking_falls, left_number}

-- the walk starts here
pub starts_there : (t : Table) (m : MapMeaning) (is_map : IsMapOf t m) (e : ℕ) (set : IsCalmSet t (with_edge (among m.added) e)) (fresh : among m.added e ≡ false) (from : ℕ) → from < length m.rows → live_of m.is_live from ≡ true → begins_in t e (row_of m.rows from) ≡ true
    → (trap : Trap) → trap ≡ row_of m.rows from → (lo : ℕ) → lo ≡ lo_of t e → (overs : List Start) → overs ≡ record { bound = trap.top; left = lo } ∷ [] → (unders : List Start) → unders ≡ record { bound = trap.bottom; left = lo } ∷ [] → (cuts : List Cut) → cuts ≡ []
    → Walking t m.added e set fresh m.rows m.is_live from overs unders cuts
starts_there t m is_map e set fresh from real live begins trap is_row lo is_lo overs over_is unders under_is cuts none =
    let start = walking_starts t m.added e set fresh m.rows m.is_live from real live (is_map.map.sound from real live) begins in
    let same_overs : record { bound = (row_of m.rows from).top; left = lo_of t e } ∷ [] ≡ overs = ap (λ (x : Trap). record { bound = x.top; left = lo_of t e } ∷ []) (sym is_row) ∙ (ap (λ (n : ℕ). record { bound = trap.top; left = n } ∷ []) (sym is_lo) ∙ sym over_is) in
    let same_unders : record { bound = (row_of m.rows from).bottom; left = lo_of t e } ∷ [] ≡ unders = ap (λ (x : Trap). record { bound = x.bottom; left = lo_of t e } ∷ []) (sym is_row) ∙ (ap (λ (n : ℕ). record { bound = trap.bottom; left = n } ∷ []) (sym is_lo) ∙ sym under_is) in
    subst (λ (o : List Start). Walking t m.added e set fresh m.rows m.is_live from o unders cuts) same_overs
    (subst (λ (u : List Start). Walking t m.added e set fresh m.rows m.is_live from (record { bound = (row_of m.rows from).top; left = lo_of t e } ∷ []) u cuts) same_unders
    (subst (λ (q : List Cut). Walking t m.added e set fresh m.rows m.is_live from (record { bound = (row_of m.rows from).top; left = lo_of t e } ∷ []) (record { bound = (row_of m.rows from).bottom; left = lo_of t e } ∷ []) q) (sym none) start))

-- the new list, where it is of this side
abbrev pub instead : Bool → List Start → List Start → List Start
instead true new was = new
instead false new was = was

longer_is : (overs unders : List Start) (up : Bool) (start : Start) (starts : List Start) → starts ≡ sides overs unders up ++ start ∷ [] → (longer up start overs ≡ instead up starts overs) × (longer (not up) start unders ≡ instead (not up) starts unders)
longer_is overs unders true start starts same = (sym same, refl)
longer_is overs unders false start starts same = (refl, sym same)

module _ (t : Table) (m : MapMeaning) (is_map : IsMapOf t m) (e : ℕ) (set : IsCalmSet t (with_edge (among m.added) e)) (fresh : among m.added e ≡ false) (row : ℕ) (overs unders : List Start) (cuts : List Cut)
    (w : Walking t m.added e set fresh m.rows m.is_live row overs unders cuts) (trap : Trap) (is_row : trap ≡ row_of m.rows row) (hi : ℕ) (is_hi : hi ≡ hi_of t e) where
  -- where the edge does not go on
  stops : IsPassed (row_of m.rows row).right (hi_of t e) None → UpTo (hi_of t e) (row_of m.rows row).right
  stops h = at (row_of m.rows row).right refl
    where
      at : (b : Option ℕ) → (row_of m.rows row).right ≡ b → UpTo (hi_of t e) b
      at None same = tt
      at (Some r) same = h r same

  -- the walk ends here
  pub ends_there : IsPassed trap.right hi None → (from : ℕ) → from < length m.rows → live_of m.is_live from ≡ true → begins_in t e (row_of m.rows from) ≡ true
      → (over_number under_number : ℕ) → over_number ≡ length overs - 1 → under_number ≡ length unders - 1
      → (cuts2 : List Cut) → cuts2 ≡ cuts ++ record { row = row; over = over_number; under = under_number } ∷ []
      → (overs2 : List Start) → overs2 ≡ overs ++ record { bound = None; left = hi } ∷ [] → (unders2 : List Start) → unders2 ≡ unders ++ record { bound = None; left = hi } ∷ []
      → IsWalk t m.added m.rows m.is_live e from row overs2 unders2 cuts2
  ends_there off from real live begins over_number under_number over_is under_is cuts2 more_cuts overs2 more_overs unders2 more_unders =
      let at_end = stops (λ r h. (let le : hi ≤ r = off r (ap (λ (x : Trap). x.right) is_row ∙ h) in omega arith)) in
      let done = walking_ends t m.added e set fresh m.rows m.is_live row overs unders cuts w at_end is_map.map from real live begins in
      let same_cuts : cuts ++ record { row = row; over = length overs - 1; under = length unders - 1 } ∷ [] ≡ cuts2 = ap (λ (n : ℕ). cuts ++ record { row = row; over = n; under = length unders - 1 } ∷ []) (sym over_is) ∙ (ap (λ (n : ℕ). cuts ++ record { row = row; over = over_number; under = n } ∷ []) (sym under_is) ∙ sym more_cuts) in
      let same_overs : overs ++ record { bound = None; left = hi_of t e } ∷ [] ≡ overs2 = ap (λ (n : ℕ). overs ++ record { bound = None; left = n } ∷ []) (sym is_hi) ∙ sym more_overs in
      let same_unders : unders ++ record { bound = None; left = hi_of t e } ∷ [] ≡ unders2 = ap (λ (n : ℕ). unders ++ record { bound = None; left = n } ∷ []) (sym is_hi) ∙ sym more_unders in
      subst (λ (o : List Start). IsWalk t m.added m.rows m.is_live e from row o unders2 cuts2) same_overs
      (subst (λ (u : List Start). IsWalk t m.added m.rows m.is_live e from row (overs ++ record { bound = None; left = hi_of t e } ∷ []) u cuts2) same_unders
      (subst (λ (q : List Cut). IsWalk t m.added m.rows m.is_live e from row (overs ++ record { bound = None; left = hi_of t e } ∷ []) (unders ++ record { bound = None; left = hi_of t e } ∷ []) q) same_cuts done))

  -- it goes on past the right of the row
  module _ (r : ℕ) (goes_past : IsPassed trap.right hi (Some r)) where
    right_is : (row_of m.rows row).right ≡ Some r
    right_is = ap (λ (x : Trap). x.right) (sym is_row) ∙ goes_past.0

    goes_on : r < hi_of t e
    goes_on = omega (arith, goes_past.1)

    end_there : is_set_end t (among m.added) r ≡ true
    end_there =
        let run = run_of t (among m.added) (old t (among m.added) e set fresh) (row_of m.rows row) w.walked.is_one in
        (subst (λ b. OfBound (λ d. Wall t (among m.added) (old t (among m.added) e set fresh) d (row_of m.rows row).bottom (row_of m.rows row).top) b) right_is run.closes).is_end

    pub corner_there : r < length t.corners
    corner_there = end_real t (among m.added) (old t (among m.added) e set fresh) r end_there

    -- the names of the lowest rows, and of the highest
    abbrev names_of : Bool → List (Option ℕ)
    names_of true = m.lowest
    names_of false = m.highest

    all_named : (up : Bool) → Names t (among m.added) (length m.rows) (row_of m.rows) (live_of m.is_live) (is_first_by t up) (named_of (names_of up))
    all_named true = is_map.lowest
    all_named false = is_map.highest

    pub is_named : (up : Bool) → IsSome (named_of (names_of up) r)
    is_named up = let found = all_named up r end_there in subst (λ (o : Option ℕ). IsSome o) (sym found.1) refl

    some_same : (a b : ℕ) → Some a ≡ Some b → a ≡ b
    some_same a b h = cc

    -- the row that has the name
    pub found : (up : Bool) (next : ℕ) → named_of (names_of up) r ≡ Some next → (next < length m.rows) × (live_of m.is_live next ≡ true) × (is_first_by t up r (row_of m.rows next) ≡ true)
    found up next at =
        let there = all_named up r end_there in
        let same : there.0 ≡ next = some_same there.0 next (sym there.1 ∙ at) in
        subst (λ n. (n < length m.rows) × (live_of m.is_live n ≡ true) × (is_first_by t up r (row_of m.rows n) ≡ true)) same (there.2, there.3, there.4)

    came : w.walked.to ≡ r
    came = come_to t (among m.added) e set fresh (row_of m.rows row) w.starts r w.walked right_is goes_on

    -- a corner that is not above the edge is below it
    pub is_below_there : is_above (edge t e) (corner t r) ≡ false → above_by t false e r ≡ true
    is_below_there off = elim (sides_of t (among m.added) e set fresh (row_of m.rows row) r w.walked.is_one w.walked.cuts_it right_is goes_on) [ inl above ↦ absurd (both_ways (is_above (edge t e) (corner t r)) off above) | inr below ↦ below ]

    -- it goes on into the row that has the name
    pub goes_there : (cuts2 : List Cut) (over_number under_number : ℕ) → over_number ≡ length overs - 1 → under_number ≡ length unders - 1 → cuts2 ≡ cuts ++ record { row = row; over = over_number; under = under_number } ∷ []
        → (up : Bool) (next : ℕ) (bound : Option ℕ) → named_of (names_of up) r ≡ Some next → above_by t up e r ≡ true → bound ≡ far up (row_of m.rows next) → (starts : List Start) → starts ≡ sides overs unders up ++ record { bound = bound; left = r } ∷ [] → Walking t m.added e set fresh m.rows m.is_live next (instead up starts overs) (instead (not up) starts unders) cuts2
    goes_there cuts2 over_number under_number over_is under_is pushed up next bound at side bound_is starts more =
        let f = found up next at in
        let is_next = is_map.map.sound next f.0 f.1 in
        let near_is = next_by t (among m.added) e set fresh (row_of m.rows row) r w.walked.is_one w.walked.cuts_it right_is goes_on (row_of m.rows next) is_next up side f.2 in
        let step = walking_goes_on t m.added e set fresh m.rows m.is_live row overs unders cuts w r came right_is goes_on next f.0 f.1 is_next up side f.2 near_is.1 in
        let lists = longer_is overs unders up (record { bound = far up (row_of m.rows next); left = r }) starts (more ∙ ap (λ (b : Option ℕ). sides overs unders up ++ record { bound = b; left = r } ∷ []) bound_is) in
        let pushed_cut : cuts ++ record { row = row; over = length overs - 1; under = length unders - 1 } ∷ [] ≡ cuts2 = ap (λ (c : Cut). cuts ++ c ∷ []) (cc) ∙ sym pushed in
        subst (λ (o : List Start). Walking t m.added e set fresh m.rows m.is_live next o (instead (not up) starts unders) cuts2) lists.0
        (subst (λ (u : List Start). Walking t m.added e set fresh m.rows m.is_live next (longer up (record { bound = far up (row_of m.rows next); left = r }) overs) u cuts2) lists.1
        (subst (λ (c : List Cut). Walking t m.added e set fresh m.rows m.is_live next (longer up (record { bound = far up (row_of m.rows next); left = r }) overs) (longer (not up) (record { bound = far up (row_of m.rows next); left = r }) unders) c) pushed_cut step))

    -- the next row begins at r
    pub falls : (up : Bool) (next : ℕ) → named_of (names_of up) r ≡ Some next → hi_of t e - left_number (row_of m.rows next).left < hi_of t e - left_number (row_of m.rows row).left
    falls up next at = walking_falls t m.added e set fresh m.rows m.is_live row overs unders cuts w r came goes_on (row_of m.rows next).left (first_parts t up r (row_of m.rows next) (found up next at).2).0
