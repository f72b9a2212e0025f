-- The walk along a new edge: what it has collected so far, how it starts, goes on and ends.
use Rattle.std.proofs.Common.{◌≡◌, ℕ, suc, ◌+◌, ◌-◌, ◌<◌, ◌≤◌, Bool, true, false, not, List, [], ◌∷◌, ◌++◌, length, refl, sym, ◌∙◌, ap, subst, ◌⊎◌, inl, inr, arith}
use Rattle.std.specs.Prelude.{Option, Some, None}
use Rattle.std.proofs.{lemmas.Bool.cases_lt, Math.ListN.get_or-append, lemmas.List.length_push}
use Rattle.loc_spec_plane.specs.{declared.Trap.Trap, Tables.Table, Tables.lo_of, Tables.hi_of, Traps.is_trap}
use Rattle.loc_laws_traps.specs.Sets.{IsCalmSet, with_edge, behind_left, is_cut, begins_in}
use Rattle.loc_laws_traps.proofs.{Turns.above_by, Turns.near, Turns.far, Adding.e_up, Add.cuts_from, Add.Common}
use Rattle.loc_laws_traps.proofs.Runs.{From, behind_is, before_is, from_is, behind_from, from_more}
use Rattle.loc_laws_traps.proofs.{Seek.begun, Seek.not_ended, Corners.is_first_by, Corners.first_parts}
use Rattle.loc_laws_traps.proofs.Step.{Walked, restart, walk_starts, walk_goes_on}
use Rattle.loc_laws_traps.proofs.Visits.{same_cut, at_last, visited}
use Rattle.loc_laws_traps.proofs.Strips.{Stands, Strip, strip_starts, strip_closes, strip_goes_on}
use Rattle.loc_traps.specs.{declared.walk.Start.Start, declared.walk.Cut.Cut}
use Rattle.loc_traps.specs.{Meaning.row_of, Meaning.live_of, Meaning.among, Walks.start_of, Walks.cut_of}
use Rattle.loc_traps.proofs.Starts.{at_end, push_cases, Reads, reads_less, reads_last}

-- the number of a left, or 0 where it is missing
abbrev pub left_number : Option ℕ → ℕ
left_number None = 0
left_number (Some c) = c

-- the starts over the edge, and those under it; the number of a cut row's piece on either side
abbrev pub sides : List Start → List Start → Bool → List Start
sides overs unders true = overs
sides overs unders false = unders

abbrev pub number_on : Bool → Cut → ℕ
number_on true cut = cut.over
number_on false cut = cut.under

-- a further start, where it is on this side
abbrev pub longer : Bool → Start → List Start → List Start
longer true start starts = starts ++ start ∷ []
longer false start starts = starts

-- a side is the one on which a start comes and the walk begins again at r, or the other one, on which all stays
abbrev Same : List Start → List Start → Bool → Bool → Start → ℕ → (Bool → ℕ) → Type 0
Same overs unders up d start r starts = (sides (longer up start overs) (longer (not up) start unders) d ≡ sides overs unders d ++ start ∷ []) × (restart up r starts d ≡ r) × (up ≡ d)

abbrev Other : List Start → List Start → Bool → Bool → Start → ℕ → (Bool → ℕ) → Type 0
Other overs unders up d start r starts = (sides (longer up start overs) (longer (not up) start unders) d ≡ sides overs unders d) × (restart up r starts d ≡ starts d) × ((a b : Trap) → near up a ≡ near up b → far d a ≡ far d b)

which : (overs unders : List Start) (up d : Bool) (start : Start) (r : ℕ) (starts : Bool → ℕ) → Same overs unders up d start r starts ⊎ Other overs unders up d start r starts
which overs unders true true start r starts = inl (refl, refl, refl)
which overs unders true false start r starts = inr (refl, refl, λ a b h. h)
which overs unders false true start r starts = inr (refl, refl, λ a b h. h)
which overs unders false false start r starts = inl (refl, refl, refl)

-- no further piece is closed, or the open one at corner r
abbrev pub Next : ℕ → ℕ → (ℕ → ℕ) → ℕ → Type 0
Next m now lefts r = (m ≡ now) ⊎ ((suc m ≡ now) × (lefts (suc m) ≡ r))

stands_on : (m now : ℕ) (bounds : ℕ → Option ℕ) (lefts : ℕ → ℕ) (bound : Option ℕ) (o k r : ℕ) → Next m now lefts r → k < r → Stands m bounds lefts bound o k → Stands now bounds lefts bound o k
stands_on m now bounds lefts bound o k r (inl same) early s = subst (λ n. Stands n bounds lefts bound o k) same s
stands_on m now bounds lefts bound o k r (inr closed) early s = record {
  place = (let p = s.place in let e = closed.0 in omega arith);
  same = s.same;
  from = s.from;
  before = λ less. elim (cases_lt o m) [
    | inl was ↦ s.before was
    | inr le ↦ (let at : m ≡ o = (let p = s.place in omega arith) in subst (λ i. k < lefts (suc i)) at (let e = closed.1 in omega arith))
  ];
}

-- the bounds and the lefts of the pieces, on either side
abbrev pub Bounds : Type 0
Bounds = Bool → ℕ → Option ℕ

abbrev pub Lefts : Type 0
Lefts = Bool → ℕ → ℕ

abbrev pub AllRead : List Start → List Start → Bounds → Lefts → Type 0
AllRead overs unders bounds lefts = (d : Bool) → Reads (sides overs unders d) (length (sides overs unders d) - 1) (bounds d) (lefts d)

module _ (t : Table) (added : List ℕ) (e : ℕ) (set : IsCalmSet t (with_edge (among added) e)) (fresh : among added e ≡ false) (rows : List Trap) (is_live : List Bool) where
  -- a cut row, with a corner before the limit at which the edge passes through it and its two pieces
  pub record Seen (cut : Cut) (limit : ℕ) (many : Bool → ℕ) (bounds : Bounds) (lefts : Lefts) : Type 0 where
    pub place : ℕ
    pub early : place < limit
    pub real : cut.row < length rows
    pub live : live_of is_live cut.row ≡ true
    pub is_one : is_trap t (among added) (row_of rows cut.row) ≡ true
    pub cuts_it : is_cut t e (row_of rows cut.row) ≡ true
    pub at : Common t (among added) e set fresh (row_of rows cut.row).left (row_of rows cut.row).right place
    pub pieces : (d : Bool) → Stands (many d) (bounds d) (lefts d) (far d (row_of rows cut.row)) (number_on d cut) place

  seen_on : (cut : Cut) (limit r : ℕ) (many many2 : Bool → ℕ) (bounds : Bounds) (lefts : Lefts) → limit ≤ r → ((d : Bool) → Next (many d) (many2 d) (lefts d) r) → Seen cut limit many bounds lefts → Seen cut r many2 bounds lefts
  seen_on cut limit r many many2 bounds lefts later next s =
      let early : s.place < r = (let p = s.early in omega arith) in
      record {
        place = s.place;
        early = early;
        real = s.real;
        live = s.live;
        is_one = s.is_one;
        cuts_it = s.cuts_it;
        at = s.at;
        pieces = λ d. stands_on (many d) (many2 d) (bounds d) (lefts d) (far d (row_of rows cut.row)) (number_on d cut) s.place r (next d) early (s.pieces d);
      }

  -- the walk is at a row, and on either side all pieces but the last are closed
  pub record Walking (row : ℕ) (overs unders : List Start) (cuts : List Cut) : Type 0 where
    pub some : (d : Bool) → 1 ≤ length (sides overs unders d)
    pub counted : length overs - 1 + (length unders - 1) ≡ length cuts
    pub real : row < length rows
    pub live : live_of is_live row ≡ true
    pub starts : Bool → ℕ
    pub walked : Walked t (among added) e set fresh (row_of rows row) starts
    pub limit : ℕ
    pub at_limit : 0 < length cuts → (row_of rows row).left ≡ Some limit
    pub strip : (d : Bool) (bounds : ℕ → Option ℕ) (lefts : ℕ → ℕ) → Reads (sides overs unders d) (length (sides overs unders d) - 1) bounds lefts → Strip t (among added) e set fresh d bounds lefts (length (sides overs unders d) - 1) (row_of rows row) starts walked.to
    pub seen : (bounds : Bounds) (lefts : Lefts) → AllRead overs unders bounds lefts → (j : ℕ) → j < length cuts → Seen (cut_of cuts j) limit (λ d. length (sides overs unders d) - 1) bounds lefts
    pub complete : (trap : Trap) (c : ℕ) → is_trap t (among added) trap ≡ true → is_cut t e trap ≡ true → Common t (among added) e set fresh trap.left trap.right c → c < walked.to → (trap ≡ row_of rows row) ⊎ ((j : ℕ) × (j < length cuts) × (row_of rows (cut_of cuts j).row ≡ trap))
    pub single : (i j : ℕ) → i < length cuts → j < length cuts → (cut_of cuts i).row ≡ (cut_of cuts j).row → i ≡ j

  -- it starts in the row in which the edge begins
  module _ (from : ℕ) (real : from < length rows) (live : live_of is_live from ≡ true) (is_one : is_trap t (among added) (row_of rows from) ≡ true) (begins : begins_in t e (row_of rows from) ≡ true) where
    from_left : From (row_of rows from).left (lo_of t e)
    from_left = from_is (row_of rows from).left (lo_of t e) (begun t e (row_of rows from) begins)

    abbrev first_lists : Bool → List Start
    first_lists = sides (record { bound = (row_of rows from).top; left = lo_of t e } ∷ []) (record { bound = (row_of rows from).bottom; left = lo_of t e } ∷ [])

    pub walking_starts : Walking from (record { bound = (row_of rows from).top; left = lo_of t e } ∷ []) (record { bound = (row_of rows from).bottom; left = lo_of t e } ∷ []) []
    walking_starts = record {
      some = one;
      counted = refl;
      real = real;
      live = live;
      starts = λ d. lo_of t e;
      walked = w;
      limit = 0;
      at_limit = λ some. absurd (omega arith);
      strip = strips;
      seen = λ bounds lefts reads j less. absurd (omega arith);
      complete = λ trap c is_old_one is_cut_one at early. inl (visited t (among added) e set fresh (row_of rows from) (λ d. lo_of t e) w trap c is_old_one is_cut_one at (from_more (row_of rows from).left (lo_of t e) c at.begun from_left) early);
      single = λ i j less. absurd (omega arith);
    }
      where
        w : Walked t (among added) e set fresh (row_of rows from) (λ d. lo_of t e)
        w = walk_starts t (among added) e set fresh (row_of rows from) is_one begins

        one : (d : Bool) → 1 ≤ length (first_lists d)
        one true = omega arith
        one false = omega arith

        strips : (d : Bool) (bounds : ℕ → Option ℕ) (lefts : ℕ → ℕ) → Reads (first_lists d) (length (first_lists d) - 1) bounds lefts → Strip t (among added) e set fresh d bounds lefts (length (first_lists d) - 1) (row_of rows from) (λ d. lo_of t e) w.to
        strips true bounds lefts r = strip_starts t (among added) e set fresh true bounds lefts (row_of rows from) w from_left (r.bound 0 (omega arith)) (r.left 0 (omega arith))
        strips false bounds lefts r = strip_starts t (among added) e set fresh false bounds lefts (row_of rows from) w from_left (r.bound 0 (omega arith)) (r.left 0 (omega arith))

    -- a cut trapezoid that the edge enters at its lower end is this one
    pub is_first : (trap : Trap) → is_trap t (among added) trap ≡ true → is_cut t e trap ≡ true → behind_left trap.left (lo_of t e) ≡ true → trap ≡ row_of rows from
    is_first trap is_old_one is_cut_one left =
        let up = e_up t (among added) e set fresh in
        let cuts = cuts_from t (among added) e set fresh trap is_cut_one in
        same_cut t (among added) e set fresh trap (row_of rows from) (lo_of t e) is_old_one is_cut_one is_one (walk_starts t (among added) e set fresh (row_of rows from) is_one begins).cuts_it
        (record { from = behind_from trap.left (lo_of t e) (behind_is trap.left (lo_of t e) left); before = cuts.begins_before; begun = omega arith; ends = up.0 })
        (record { from = from_left; before = before_is (lo_of t e) (row_of rows from).right (not_ended t e (row_of rows from) begins); begun = omega arith; ends = up.0 })

  -- what a step keeps, whichever piece it closes
  module _ (row : ℕ) (overs unders : List Start) (cuts : List Cut) (w : Walking row overs unders cuts) (r : ℕ) (came : w.walked.to ≡ r) where
    last_at : Common t (among added) e set fresh (row_of rows row).left (row_of rows row).right (w.walked.to - 1)
    last_at = at_last t (among added) e set fresh (row_of rows row) w.starts w.walked

    some_to : 0 < w.walked.to
    some_to = let s = (w.walked.piece true).starts in omega arith

    limit_early : 0 < length cuts → w.limit < r
    limit_early some = let f : w.limit ≤ w.walked.to - 1 = subst (λ o. From o (w.walked.to - 1)) (w.at_limit some) last_at.from in let s = some_to in omega arith

    abbrev pub new_cut : Cut
    new_cut = record { row = row; over = length overs - 1; under = length unders - 1 }

    number_is : (d : Bool) → number_on d new_cut ≡ length (sides overs unders d) - 1
    number_is true = refl
    number_is false = refl

    old_cut : (j : ℕ) → j < length cuts → cut_of (cuts ++ new_cut ∷ []) j ≡ cut_of cuts j
    old_cut j less = get_or-append cuts (new_cut ∷ []) (record { row = 0; over = 0; under = 0 }) j less

    last_cut : (j : ℕ) → j ≡ length cuts → cut_of (cuts ++ new_cut ∷ []) j ≡ new_cut
    last_cut j at = at_end cuts new_cut (record { row = 0; over = 0; under = 0 }) j at

    seen_here : (bounds : Bounds) (lefts : Lefts) → AllRead overs unders bounds lefts → Seen new_cut r (λ d. length (sides overs unders d) - 1) bounds lefts
    seen_here bounds lefts reads =
        let to = some_to in
        record {
          place = w.walked.to - 1;
          early = omega arith;
          real = w.real;
          live = w.live;
          is_one = w.walked.is_one;
          cuts_it = w.walked.cuts_it;
          at = last_at;
          pieces = λ d.
              (let strip = w.strip d (bounds d) (lefts d) (reads d) in
              let starts = (w.walked.piece d).starts in
              let at_left = strip.at_left in
              let here : Stands (length (sides overs unders d) - 1) (bounds d) (lefts d) (far d (row_of rows row)) (length (sides overs unders d) - 1) (w.walked.to - 1) = record { place = omega arith; same = strip.at_bound; from = omega arith; before = λ less. absurd (omega arith) } in
              subst (λ n. Stands (length (sides overs unders d) - 1) (bounds d) (lefts d) (far d (row_of rows row)) n (w.walked.to - 1)) (sym (number_is d)) here);
        }

    pub seen_more : (many2 : Bool → ℕ) (bounds : Bounds) (lefts : Lefts) → AllRead overs unders bounds lefts → ((d : Bool) → Next (length (sides overs unders d) - 1) (many2 d) (lefts d) r) → (j : ℕ) → j < length (cuts ++ new_cut ∷ []) → Seen (cut_of (cuts ++ new_cut ∷ []) j) r many2 bounds lefts
    seen_more many2 bounds lefts reads next j less = elim (push_cases cuts new_cut j less) [
      | inl was ↦ subst (λ (c : Cut). Seen c r many2 bounds lefts) (sym (old_cut j was)) (let early = limit_early (omega arith) in seen_on (cut_of cuts j) w.limit r (λ d. length (sides overs unders d) - 1) many2 bounds lefts (omega arith) next (w.seen bounds lefts reads j was))
      | inr at ↦ subst (λ (c : Cut). Seen c r many2 bounds lefts) (sym (last_cut j at)) (seen_on new_cut r r (λ d. length (sides overs unders d) - 1) many2 bounds lefts (omega arith) next (seen_here bounds lefts reads))
    ]

    new_row : (i : ℕ) → i < length cuts → (cut_of cuts i).row ≡ row → ⊥
    new_row i less same =
        let s = w.seen (λ d k. (start_of (sides overs unders d) k).bound) (λ d k. (start_of (sides overs unders d) k).left) (λ d. record { bound = λ k le. refl; left = λ k le. refl }) i less in
        let left : (row_of rows (cut_of cuts i).row).left ≡ Some w.limit = ap (λ n. (row_of rows n).left) same ∙ w.at_limit (omega arith) in
        let from : w.limit ≤ s.place = subst (λ o. From o s.place) left s.at.from in
        let early = s.early in
        absurd (omega arith)

    pub single_more : (i j : ℕ) → i < length (cuts ++ new_cut ∷ []) → j < length (cuts ++ new_cut ∷ []) → (cut_of (cuts ++ new_cut ∷ []) i).row ≡ (cut_of (cuts ++ new_cut ∷ []) j).row → i ≡ j
    single_more i j less_i less_j same = elim (push_cases cuts new_cut i less_i) [
      | inl was_i ↦ elim (push_cases cuts new_cut j less_j) [
        | inl was_j ↦ w.single i j was_i was_j (ap (λ (c : Cut). c.row) (sym (old_cut i was_i)) ∙ (same ∙ ap (λ (c : Cut). c.row) (old_cut j was_j)))
        | inr at_j ↦ absurd (new_row i was_i (ap (λ (c : Cut). c.row) (sym (old_cut i was_i)) ∙ (same ∙ ap (λ (c : Cut). c.row) (last_cut j at_j))))
      ]
      | inr at_i ↦ elim (push_cases cuts new_cut j less_j) [
        | inl was_j ↦ absurd (new_row j was_j (ap (λ (c : Cut). c.row) (sym (old_cut j was_j)) ∙ (sym same ∙ ap (λ (c : Cut). c.row) (last_cut i at_i))))
        | inr at_j ↦ omega arith
      ]
    ]

    pub complete_before : (trap : Trap) (c : ℕ) → is_trap t (among added) trap ≡ true → is_cut t e trap ≡ true → Common t (among added) e set fresh trap.left trap.right c → c < r → (j : ℕ) × (j < length (cuts ++ new_cut ∷ [])) × (row_of rows (cut_of (cuts ++ new_cut ∷ []) j).row ≡ trap)
    complete_before trap c is_old_one is_cut_one at early =
        let many = length_push cuts new_cut in
        elim (w.complete trap c is_old_one is_cut_one at (omega arith)) [
          | inl same ↦ (length cuts, omega arith, ap (λ (x : Cut). row_of rows x.row) (last_cut (length cuts) refl) ∙ sym same)
          | inr was ↦ (was.0, (let l = was.1 in omega arith), ap (λ (x : Cut). row_of rows x.row) (old_cut was.0 was.1) ∙ was.2)
        ]

    -- the lefts rise
    pub walking_falls : r < hi_of t e → (left : Option ℕ) → left ≡ Some r → hi_of t e - left_number left < hi_of t e - left_number (row_of rows row).left
    walking_falls goes_on left at =
        let now : left_number left ≡ r = ap left_number at in
        let was : left_number (row_of rows row).left < r = lower (row_of rows row).left last_at.from in
        omega arith
      where
        lower : (b : Option ℕ) → From b (w.walked.to - 1) → left_number b < r
        lower None h = let s = some_to in let c = came in omega arith
        lower (Some d) h = let s = some_to in let c = came in omega arith

    -- the step, to the row that begins at r and is the lowest or the highest there: the piece on that side of the edge is closed, and a new one begins
    module _ (at_right : (row_of rows row).right ≡ Some r) (goes_on : r < hi_of t e) (next : ℕ) (real : next < length rows) (live : live_of is_live next ≡ true) (is_next : is_trap t (among added) (row_of rows next) ≡ true)
        (up : Bool) (side : above_by t up e r ≡ true) (first : is_first_by t up r (row_of rows next) ≡ true) (same_near : near up (row_of rows next) ≡ near up (row_of rows row)) where
      left : (row_of rows next).left ≡ Some r
      left = (first_parts t up r (row_of rows next) first).0

      w2 : Walked t (among added) e set fresh (row_of rows next) (restart up r w.starts)
      w2 = walk_goes_on t (among added) e set fresh (row_of rows row) (row_of rows next) w.starts r w.walked at_right goes_on up side is_next first

      abbrev pub start : Start
      start = record { bound = far up (row_of rows next); left = r }

      -- one start more
      many_more : (d : Bool) → length (sides overs unders d ++ start ∷ []) - 1 ≡ suc (length (sides overs unders d) - 1)
      many_more d = let l = length_push (sides overs unders d) start in let s = w.some d in omega arith

      abbrev lists : Bool → List Start
      lists = sides (longer up start overs) (longer (not up) start unders)

      which_side : (d : Bool) → Same overs unders up d start r w.starts ⊎ Other overs unders up d start r w.starts
      which_side d = which overs unders up d start r w.starts

      module _ (bounds : ℕ → Option ℕ) (lefts : ℕ → ℕ) (d : Bool) where
        abbrev m : ℕ
        m = length (sides overs unders d) - 1

        abbrev Read : List Start → Type 0
        Read starts = Reads starts (length starts - 1) bounds lefts

        one_less : length (sides overs unders d) ≡ suc m
        one_less = let s = w.some d in omega arith

        more : Read (sides overs unders d ++ start ∷ []) → Reads (sides overs unders d ++ start ∷ []) (suc m) bounds lefts
        more reads = subst (λ n. Reads (sides overs unders d ++ start ∷ []) n bounds lefts) (many_more d) reads

        last : Read (sides overs unders d ++ start ∷ []) → (bounds (suc m) ≡ start.bound) × (lefts (suc m) ≡ r)
        last reads = reads_last (sides overs unders d) start m one_less bounds lefts (more reads)

        old_reads : Read (lists d) → Read (sides overs unders d)
        old_reads reads = elim (which_side d) [
          | inl same ↦ reads_less (sides overs unders d) start m one_less bounds lefts (suc m) (omega arith) (more (subst (λ xs. Read xs) same.0 reads))
          | inr other ↦ subst (λ xs. Read xs) other.0 reads
        ]

        next_one : Read (lists d) → Next m (length (lists d) - 1) lefts r
        next_one reads = elim (which_side d) [
          | inl same ↦ inr (subst (λ (xs : List Start). suc m ≡ length xs - 1) (sym same.0) (sym (many_more d)), (last (subst (λ xs. Read xs) same.0 reads)).1)
          | inr other ↦ inl (ap (λ (xs : List Start). length xs - 1) (sym other.0))
        ]

        abbrev StripOf : ℕ → Type 0
        StripOf n = Strip t (among added) e set fresh d bounds lefts n (row_of rows next) (restart up r w.starts) w2.to

        next_strip : Read (lists d) → StripOf (length (lists d) - 1)
        next_strip reads =
            let was = w.strip d bounds lefts (old_reads reads) in
            elim (which_side d) [
              | inl same ↦ (let end = last (subst (λ xs. Read xs) same.0 reads) in
                  subst (λ n. StripOf n) (sym (many_more d) ∙ ap (λ (xs : List Start). length xs - 1) (sym same.0))
                  (strip_closes t (among added) e set fresh d bounds lefts m (row_of rows row) (row_of rows next) w.starts (restart up r w.starts) r w.walked at_right goes_on was w2 left same.1
                  (subst (λ u. above_by t u e r ≡ true) same.2 side) (end.0 ∙ ap (λ u. far u (row_of rows next)) same.2) end.1))
              | inr other ↦ subst (λ n. StripOf n) (ap (λ (xs : List Start). length xs - 1) (sym other.0))
                  (strip_goes_on t (among added) e set fresh d bounds lefts m (row_of rows row) (row_of rows next) w.starts (restart up r w.starts) r w.walked at_right goes_on was w2 left other.1 (other.2 (row_of rows next) (row_of rows row) same_near))
            ]

      counted_more : (up : Bool) (s : Start) → length (longer up s overs) - 1 + (length (longer (not up) s unders) - 1) ≡ length (cuts ++ new_cut ∷ [])
      counted_more true s = let l = length_push overs s in let many = length_push cuts new_cut in let o = w.some true in let c = w.counted in omega arith
      counted_more false s = let l = length_push unders s in let many = length_push cuts new_cut in let o = w.some false in let c = w.counted in omega arith

      complete_more : (trap : Trap) (c : ℕ) → is_trap t (among added) trap ≡ true → is_cut t e trap ≡ true → Common t (among added) e set fresh trap.left trap.right c → c < w2.to
          → (trap ≡ row_of rows next) ⊎ ((j : ℕ) × (j < length (cuts ++ new_cut ∷ [])) × (row_of rows (cut_of (cuts ++ new_cut ∷ []) j).row ≡ trap))
      complete_more trap c is_old_one is_cut_one at early = elim (cases_lt c r) [
        | inl before_r ↦ inr (complete_before trap c is_old_one is_cut_one at before_r)
        | inr past ↦ inl (visited t (among added) e set fresh (row_of rows next) (restart up r w.starts) w2 trap c is_old_one is_cut_one at (subst (λ o. From o c) (sym left) past) early)
      ]

      pub walking_goes_on : Walking next (longer up start overs) (longer (not up) start unders) (cuts ++ new_cut ∷ [])
      walking_goes_on = record {
        some = λ d. elim (which_side d) [
          | inl same ↦ subst (λ (xs : List Start). 1 ≤ length xs) (sym same.0) (let l = length_push (sides overs unders d) start in omega arith)
          | inr other ↦ subst (λ (xs : List Start). 1 ≤ length xs) (sym other.0) (w.some d)
        ];
        counted = counted_more up start;
        real = real;
        live = live;
        starts = restart up r w.starts;
        walked = w2;
        limit = r;
        at_limit = λ some. left;
        strip = λ d bounds lefts reads. next_strip bounds lefts d reads;
        seen = λ bounds lefts reads. seen_more (λ d. length (lists d) - 1) bounds lefts (λ d. old_reads (bounds d) (lefts d) d (reads d)) (λ d. next_one (bounds d) (lefts d) d (reads d));
        complete = complete_more;
        single = single_more;
      }
