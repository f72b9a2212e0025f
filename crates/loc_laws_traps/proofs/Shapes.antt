-- Trapezoids and the pieces of a cut one from either side: the near bound is the bottom where `up` holds, else the top.
use Rattle.std.proofs.Common.{◌≡◌, ℕ, ◌≤◌, Bool, true, false, ◌&&◌, ◌||◌, refl, inl, inr}
use Rattle.std.specs.Prelude.{Option, Some, None, nat_le}
use Rattle.std.proofs.lemmas.Bool.{and_parts, and_from, or_cases, leb-true}
use Rattle.loc_spec_plane.specs.{declared.Trap.Trap, Tables.Table, Tables.lo_of, Tables.hi_of}
use Rattle.loc_spec_plane.specs.Traps.{same_bound, is_trap}
use Rattle.loc_laws_traps.specs.Sets.{IsCalmSet, up_to_bound, from_bound, spans, is_over_piece, is_under_piece}
use Rattle.loc_laws_traps.proofs.Turns.{near, far}
use Rattle.loc_laws_traps.proofs.Cells.{OfBound, CellBy, Cell, turn_cell, same_bound-true, same_bound-same}
use Rattle.loc_laws_traps.proofs.Runs.{RunBy, turn_run, run_of, trap_of}

abbrev pub pick : Bool → Option ℕ → Option ℕ → Option ℕ
pick true a b = a
pick false a b = b

-- a trapezoid by its bounds
abbrev pub trap_by : Bool → Option ℕ → Option ℕ → Option ℕ → Option ℕ → Trap
trap_by up near far left right = record { bottom = pick up near far; top = pick up far near; left = left; right = right }

pub near_of : (up : Bool) (n f l r : Option ℕ) → near up (trap_by up n f l r) ≡ n
near_of true n f l r = refl
near_of false n f l r = refl

pub far_of : (up : Bool) (n f l r : Option ℕ) → far up (trap_by up n f l r) ≡ f
far_of true n f l r = refl
far_of false n f l r = refl

module _ (t : Table) (among : ℕ → Bool) (set : IsCalmSet t among) where
  pub run_by : (up : Bool) (trap : Trap) → is_trap t among trap ≡ true → RunBy t among set up trap.left (near up trap) (far up trap) trap.right
  run_by true trap h = run_of t among set trap h
  run_by false trap h = turn_run t among set true trap.left trap.bottom trap.top trap.right (run_of t among set trap h)

  pub is_trap_by : (up : Bool) (near far left right : Option ℕ) → RunBy t among set up left near far right → is_trap t among (trap_by up near far left right) ≡ true
  is_trap_by true near far left right run = trap_of t among set (trap_by true near far left right) run
  is_trap_by false near far left right run = trap_of t among set (trap_by false near far left right) (turn_run t among set false left near far right run)

  pub cell_by : (up : Bool) (k : ℕ) (trap : Trap) → Cell t among set k trap.bottom trap.top → CellBy t among set up k (near up trap) (far up trap)
  cell_by true k trap cell = cell
  cell_by false k trap cell = turn_cell t among set true k trap.bottom trap.top cell

-- the piece beyond edge e: over it, or under it
abbrev pub is_piece_by : Table → Bool → ℕ → Trap → Trap → Bool
is_piece_by t true e cut piece = is_over_piece t e cut piece
is_piece_by t false e cut piece = is_under_piece t e cut piece

pub piece_parts : (t : Table) (up : Bool) (e : ℕ) (cut piece : Trap) → is_piece_by t up e cut piece ≡ true → (near up piece ≡ Some e) × (far up piece ≡ far up cut) × (spans t e cut piece ≡ true)
piece_parts t true e cut piece h =
    let a = and_parts (same_bound piece.bottom (Some e) && same_bound piece.top cut.top) (spans t e cut piece) h in
    let b = and_parts (same_bound piece.bottom (Some e)) (same_bound piece.top cut.top) a.0 in
    (same_bound-true piece.bottom (Some e) b.0, same_bound-true piece.top cut.top b.1, a.1)
piece_parts t false e cut piece h =
    let a = and_parts (same_bound piece.bottom cut.bottom && same_bound piece.top (Some e)) (spans t e cut piece) h in
    let b = and_parts (same_bound piece.bottom cut.bottom) (same_bound piece.top (Some e)) a.0 in
    (same_bound-true piece.top (Some e) b.1, same_bound-true piece.bottom cut.bottom b.0, a.1)

pub piece_from : (t : Table) (up : Bool) (e : ℕ) (cut piece : Trap) → near up piece ≡ Some e → far up piece ≡ far up cut → spans t e cut piece ≡ true → is_piece_by t up e cut piece ≡ true
piece_from t true e cut piece n f s = and_from (same_bound piece.bottom (Some e) && same_bound piece.top cut.top) (spans t e cut piece) (and_from (same_bound piece.bottom (Some e)) (same_bound piece.top cut.top) (same_bound-same piece.bottom (Some e) n) (same_bound-same piece.top cut.top f)) s
piece_from t false e cut piece n f s = and_from (same_bound piece.bottom cut.bottom && same_bound piece.top (Some e)) (spans t e cut piece) (and_from (same_bound piece.bottom cut.bottom) (same_bound piece.top (Some e)) (same_bound-same piece.bottom cut.bottom f) (same_bound-same piece.top (Some e) n)) s

-- what holds at the begin of e and at the left of the cut trapezoid, and of all before, holds at the left of a piece that spans them
pub left_spanned : (L : ℕ → Type 0) → ((c d : ℕ) → c ≤ d → L d → L c) → (k : ℕ) → L k → (b left : Option ℕ) → OfBound L left → (up_to_bound b (Some k) || up_to_bound b left) ≡ true → OfBound L b
left_spanned L down k at None left h q = tt
left_spanned L down k at (Some c) left h q = elim (or_cases (nat_le c k) (up_to_bound (Some c) left) q) [ inl near_it ↦ down c k (leb-true c k near_it) at | inr far_it ↦ within left h far_it ]
  where
    within : (b : Option ℕ) → OfBound L b → up_to_bound (Some c) b ≡ true → L c
    within None h q = absurd cc
    within (Some d) h q = down c d (leb-true c d q) h

right_spanned : (R : ℕ → Type 0) → ((c d : ℕ) → c ≤ d → R c → R d) → (k : ℕ) → R k → (b right : Option ℕ) → OfBound R right → (from_bound b (Some k) || from_bound b right) ≡ true → OfBound R b
right_spanned R on k at None right h q = tt
right_spanned R on k at (Some d) right h q = elim (or_cases (nat_le k d) (from_bound (Some d) right) q) [ inl near_it ↦ on k d (leb-true k d near_it) at | inr far_it ↦ within right h far_it ]
  where
    within : (b : Option ℕ) → OfBound R b → from_bound (Some d) b ≡ true → R d
    within None h q = absurd cc
    within (Some c) h q = on c d (leb-true c d q) h

pub spanned : (t : Table) (e : ℕ) (cut piece : Trap) → spans t e cut piece ≡ true → (L R : ℕ → Type 0) → ((c d : ℕ) → c ≤ d → L d → L c) → ((c d : ℕ) → c ≤ d → R c → R d) → L (lo_of t e) → R (hi_of t e) → OfBound L cut.left → OfBound R cut.right → OfBound L piece.left × OfBound R piece.right
spanned t e cut piece s L R down on at_lo at_hi at_left at_right =
    let q = and_parts (up_to_bound piece.left (Some (lo_of t e)) || up_to_bound piece.left cut.left) (from_bound piece.right (Some (hi_of t e)) || from_bound piece.right cut.right) s in
    (left_spanned L down (lo_of t e) at_lo piece.left cut.left at_left q.0, right_spanned R on (hi_of t e) at_hi piece.right cut.right at_right q.1)
