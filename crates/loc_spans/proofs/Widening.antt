-- Boxes that reach further.
use Rattle.std.proofs.Common.{◌≡◌, ℤ, ℕ, ◌+◌, ◌<◌, true, ◌&&◌, List, [], ◌∷◌, length, take, get_or, refl, ◌∙◌, ap, arith}
use Rattle.std.specs.{Prelude.int_le, List.list_all}
use Rattle.std.proofs.{lemmas.Int.ints, lemmas.Bool.and_parts, lemmas.Bool.and_from, lemmas.List.take_more}
use Rattle.loc_spec_plane.specs.Points.{Point, Edge, before, up_to}
use Rattle.loc_laws_order.proofs.{Sets.all_joined, Sets.all_weaker, Sides.le_decides, Tests.up_to_trans}
use Rattle.loc_laws_any.specs.Boxes.{is_boxed}
use Rattle.loc_laws_any.proofs.Boxes.{before-up_to, up_to-before}
use Rattle.loc_spans.specs.{declared.extents.Around.Around, Around.IsWider}

-- from a first moment to a last
pub goes_up : (first lo hi last : Point) → up_to first lo ≡ true → before lo hi ≡ true → up_to hi last ≡ true → before first last ≡ true
goes_up first lo hi last a b c = before-up_to first hi last (up_to-before first lo hi a b) c

pub le_trans : (a b c : ℤ) → int_le a b ≡ true → int_le b c ≡ true → int_le a c ≡ true
le_trans a b c h k = let x = (le_decides a b).0 h in let y = (le_decides b c).0 k in (le_decides a c).1 (omega (arith, ints, x, y))

-- a segment is in a box by its moments and its heights
pub boxed_by : (first last : Point) (low high : ℤ) (s : Edge) → up_to first s.lo ≡ true → up_to s.hi last ≡ true → int_le low s.lo.y ≡ true → int_le low s.hi.y ≡ true → int_le s.lo.y high ≡ true → int_le s.hi.y high ≡ true
    → is_boxed first last low high s ≡ true
boxed_by first last low high s a b c d e f =
    and_from (up_to first s.lo && up_to s.hi last) ((int_le low s.lo.y && int_le low s.hi.y) && (int_le s.lo.y high && int_le s.hi.y high)) (and_from (up_to first s.lo) (up_to s.hi last) a b)
    (and_from (int_le low s.lo.y && int_le low s.hi.y) (int_le s.lo.y high && int_le s.hi.y high) (and_from (int_le low s.lo.y) (int_le low s.hi.y) c d) (and_from (int_le s.lo.y high) (int_le s.hi.y high) e f))

-- what is in a box is in a wider one
pub boxed_wider : (a b : Around) → IsWider a b → (s : Edge) → is_boxed a.span.lo a.span.hi a.low.y a.high.y s ≡ true → is_boxed b.span.lo b.span.hi b.low.y b.high.y s ≡ true
boxed_wider a b wider s h =
    let outer = and_parts (up_to a.span.lo s.lo && up_to s.hi a.span.hi) ((int_le a.low.y s.lo.y && int_le a.low.y s.hi.y) && (int_le s.lo.y a.high.y && int_le s.hi.y a.high.y)) h in
    let when = and_parts (up_to a.span.lo s.lo) (up_to s.hi a.span.hi) outer.0 in
    let heights = and_parts (int_le a.low.y s.lo.y && int_le a.low.y s.hi.y) (int_le s.lo.y a.high.y && int_le s.hi.y a.high.y) outer.1 in
    let lows = and_parts (int_le a.low.y s.lo.y) (int_le a.low.y s.hi.y) heights.0 in
    let highs = and_parts (int_le s.lo.y a.high.y) (int_le s.hi.y a.high.y) heights.1 in
    boxed_by b.span.lo b.span.hi b.low.y b.high.y s (up_to_trans b.span.lo a.span.lo s.lo wider.first when.0) (up_to_trans s.hi a.span.hi b.span.hi when.1 wider.last)
    (le_trans b.low.y a.low.y s.lo.y wider.low lows.0) (le_trans b.low.y a.low.y s.hi.y wider.low lows.1) (le_trans s.lo.y a.high.y b.high.y highs.0 wider.high) (le_trans s.hi.y a.high.y b.high.y highs.1 wider.high)

-- one segment more
pub boxed_more : (a b : Around) (rows : List Edge) (n : ℕ) (d : Edge) → IsWider a b → n < length rows → list_all (is_boxed a.span.lo a.span.hi a.low.y a.high.y) (take n rows) ≡ true
    → is_boxed b.span.lo b.span.hi b.low.y b.high.y (get_or rows n d) ≡ true → list_all (is_boxed b.span.lo b.span.hi b.low.y b.high.y) (take (n + 1) rows) ≡ true
boxed_more a b rows n d wider lt all here =
    let test = is_boxed b.span.lo b.span.hi b.low.y b.high.y in
    ap (list_all test) (take_more rows n d lt) ∙ all_joined test (take n rows) (get_or rows n d ∷ [])
    (all_weaker (is_boxed a.span.lo a.span.hi a.low.y a.high.y) test (boxed_wider a b wider) (take n rows) all) (and_from (test (get_or rows n d)) true here refl)
