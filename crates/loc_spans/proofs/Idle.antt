-- Boxes that are passed over: their features neither touch nor cover the point. A box that is reached holds it.
use Rattle.std.proofs.Common.{◌≡◌, ℕ, ℤ, ◌+◌, ◌<◌, true, false, ◌&&◌, ◌||◌, List, length, map, sym, ◌∙◌, ap, subst, inl, inr, arith}
use Rattle.std.specs.Prelude.{int_le, int_lt, slice_index_or}
use Rattle.std.proofs.lemmas.Bool.{cases_Bool, cases_lt, and_from, or_left, or_right, both_ways, not_from_false}
use Rattle.std.proofs.{lemmas.Int.ints, lemmas.List.get_or-map, lemmas.List.get_or_default, lemmas.List.length-map}
use Rattle.loc_spec_plane.specs.Points.{Point, Edge, before, up_to}
use Rattle.loc_spec_plane.specs.Rings.{Rings, touches, covers}
use Rattle.loc_laws_order.proofs.Sides.{le_decides}
use Rattle.loc_laws_any.specs.{Boxes.is_outside, Moments.at_moment}
use Rattle.loc_laws_any.proofs.Boxes.{box_law}
use Rattle.loc_spans.specs.Rows.{row_at, NoneBetween}
use Rattle.loc_spans.specs.Boxes.{Kept, BoxedState, IsBoxOf, IsBoxed, IsIdle, holds_point, rings_at}

-- neither touches nor covers
abbrev Passes : Rings → Point → Type 0
Passes rings p = (touches rings p ≡ false) × (covers rings p ≡ false)

outside : (layer : List Rings) (b : BoxedState) → IsBoxed layer b → (box : Kept) → IsBoxOf layer box → (p : Point) → is_outside box.0.lo box.0.hi box.1.low.y box.1.high.y p ≡ true → Passes (rings_at layer box) p
outside layer b is box of p out = box_law (rings_at layer box) box.0.lo box.0.hi box.1.low.y box.1.high.y p (is.kept.closed box.1.feature of.0) of.1 out

-- a point that is not at the moment of a box
elsewhen : (box : Kept) (p : Point) → at_moment box.0 p ≡ false → is_outside box.0.lo box.0.hi box.1.low.y box.1.high.y p ≡ true
elsewhen box p none = elim (cases_Bool (before p box.0.lo)) [
  | inl early ↦ or_left (before p box.0.lo || before box.0.hi p) (int_lt p.y box.1.low.y || int_lt box.1.high.y p.y) (or_left (before p box.0.lo) (before box.0.hi p) early)
  | inr begun ↦ elim (cases_Bool (before box.0.hi p)) [
    | inl late ↦ or_left (before p box.0.lo || before box.0.hi p) (int_lt p.y box.1.low.y || int_lt box.1.high.y p.y) (or_right (before p box.0.lo) (before box.0.hi p) late)
    | inr now ↦ absurd (both_ways (at_moment box.0 p) none (and_from (up_to box.0.lo p) (up_to p box.0.hi) (not_from_false (before p box.0.lo) begun) (not_from_false (before box.0.hi p) now)))
  ]
]

-- a point past the heights of a box
past_heights : (box : Kept) (p : Point) → (int_le box.1.low.y p.y && int_le p.y box.1.high.y) ≡ false → is_outside box.0.lo box.0.hi box.1.low.y box.1.high.y p ≡ true
past_heights box p out = elim (cases_Bool (int_le box.1.low.y p.y)) [
  | inl above ↦ elim (cases_Bool (int_le p.y box.1.high.y)) [
    | inl below ↦ absurd (both_ways (int_le box.1.low.y p.y && int_le p.y box.1.high.y) out (and_from (int_le box.1.low.y p.y) (int_le p.y box.1.high.y) above below))
    | inr over ↦ or_right (before p box.0.lo || before box.0.hi p) (int_lt p.y box.1.low.y || int_lt box.1.high.y p.y) (or_right (int_lt p.y box.1.low.y) (int_lt box.1.high.y p.y) (less box.1.high.y p.y over))
  ]
  | inr under ↦ or_right (before p box.0.lo || before box.0.hi p) (int_lt p.y box.1.low.y || int_lt box.1.high.y p.y) (or_left (int_lt p.y box.1.low.y) (int_lt box.1.high.y p.y) (less p.y box.1.low.y under))
]
  where
    less : (a b : ℤ) → int_le b a ≡ false → int_lt a b ≡ true
    less a b past = elim (cases_Bool (int_lt a b)) [
      | inl is ↦ is
      | inr other ↦ absurd (both_ways (int_le b a) past ((le_decides b a).1 (grind (arith, ints))))
    ]

module _ (b : BoxedState) (rows : List Edge) (same : rows ≡ map (λ (box : Kept). box.0) b.boxes) where
  row_is : (k : ℕ) (d : Kept) → k < length b.boxes → row_at rows k d.0 ≡ (slice_index_or b.boxes k d).0
  row_is k d lt = ap (λ rs. row_at rs k d.0) same ∙ get_or-map (λ (box : Kept). box.0) b.boxes k d d.0 lt

  pub many : length rows ≡ length b.boxes
  many = ap length same ∙ length-map b.boxes (λ (box : Kept). box.0)

  -- a box whose moments and heights have the point
  pub held : (p : Point) (k : ℕ) (box d : Kept) → k < length b.boxes → box ≡ slice_index_or b.boxes k box → ((e : Edge) → at_moment (row_at rows k e) p ≡ true) → (int_le box.1.low.y p.y && int_le p.y box.1.high.y) ≡ true → holds_point (slice_index_or b.boxes k d) p ≡ true
  held p k box d lt is_at moment heights = subst (λ (q : Kept). holds_point q p ≡ true) (is_at ∙ get_or_default b.boxes k box d lt) (and_from (at_moment box.0 p) (int_le box.1.low.y p.y && int_le p.y box.1.high.y) now heights)
    where
      now : at_moment box.0 p ≡ true
      now = ap (λ (e : Edge). at_moment e p) (ap (λ (q : Kept). q.0) is_at ∙ sym (row_is k box lt)) ∙ moment box.0

module _ (layer : List Rings) (b : BoxedState) (is : IsBoxed layer b) (p : Point) (rows : List Edge) (same : rows ≡ map (λ (box : Kept). box.0) b.boxes) where
  -- up to the next row of the moment
  pub idle_up_to : (from at to : ℕ) → IsIdle layer b.boxes p from at → NoneBetween rows p at to → IsIdle layer b.boxes p from to
  idle_up_to from at to idle none k d le lt fits = elim (cases_lt k at) [
    | inl first ↦ idle k d le first fits
    | inr later ↦ outside layer b is (slice_index_or b.boxes k d) (is.each k d fits) p (elsewhen (slice_index_or b.boxes k d) p (ap (λ (s : Edge). at_moment s p) (sym (row_is b rows same k d fits)) ∙ none k d.0 later lt (omega (arith, fits, many b rows same))))
  ]

  -- and past one whose heights the point is past
  pub idle_past : (from at : ℕ) (box : Kept) → IsIdle layer b.boxes p from at → at < length b.boxes → box ≡ slice_index_or b.boxes at box → (int_le box.1.low.y p.y && int_le p.y box.1.high.y) ≡ false → IsIdle layer b.boxes p from (at + 1)
  idle_past from at box idle here is_at out k d le lt fits = elim (cases_lt k at) [
    | inl first ↦ idle k d le first fits
    | inr later ↦ (let one : at ≡ k = omega arith in
        subst (λ (q : Kept). Passes (rings_at layer q) p) (is_there one) (outside layer b is box (subst (IsBoxOf layer) (sym is_at) (is.each at box here)) p (past_heights box p out)))
  ]
    where
      is_there : at ≡ k → box ≡ slice_index_or b.boxes k d
      is_there one = is_at ∙ (ap (λ n. slice_index_or b.boxes n box) one ∙ other)
        where
          other : slice_index_or b.boxes k box ≡ slice_index_or b.boxes k d
          other = get_or_default b.boxes k box d fits
