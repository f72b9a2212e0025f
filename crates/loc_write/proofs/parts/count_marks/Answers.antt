use Rattle.std.proofs.Common.{◌≡◌, ℕ, ◌+◌, ◌<◌, ◌≤◌, ◌^◌, [], List, length, take, ap, arith}
use Rattle.std.specs.Prelude.{sum_by, slice_get, Some}
use Rattle.std.proofs.lemmas.List.Sums.{sum_by_more, sum_by_more_le}
use Rattle.std.proofs.lemmas.Option.{get_or_from_slice_get}
use Rattle.loc_spec_plane.specs.declared.Mark.{Mark}
use Rattle.loc_write.proofs.parts.count_marks.Goals as goal

within : (rows : List (List Mark)) (i count : ℕ) (row : List Mark) → i < length rows → slice_get rows i ≡ Some row → count ≡ sum_by length (take i rows) → sum_by length rows ≤ 2 ^ 21 → count + length row ≤ 2 ^ 21
within rows i count row lt at is few =
    let one = sum_by_more_le length rows i [] lt in
    let same = ap (λ (r : List Mark). length r) (get_or_from_slice_get rows i row [] at) in
    omega (arith, one, same, is, few)

more : (rows : List (List Mark)) (i count : ℕ) (row : List Mark) → i < length rows → slice_get rows i ≡ Some row → count ≡ sum_by length (take i rows) → count + length row ≡ sum_by length (take (i + 1) rows)
more rows i count row lt at is =
    let one = sum_by_more length rows i [] lt in
    let same = ap (λ (r : List Mark). length r) (get_or_from_slice_get rows i row [] at) in
    omega (arith, one, same, is)

pub overflow_cast-count : goal.overflow_cast-count
overflow_cast-count c = let w = within c.args.table.now.marks c.loop-edge.edge c.loop-edge.count c.marks.result.now (omega arith) c.marks.ensures.value c.loop-edge.invariant c.requires.few in record { fits = omega (arith, w) }

pub overflow_add-count : goal.overflow_add-count
overflow_add-count c = let w = within c.args.table.now.marks c.loop-edge.edge c.loop-edge.count c.marks.result.now (omega arith) c.marks.ensures.value c.loop-edge.invariant c.requires.few in record { fits = omega (arith, w) }

pub loop-edge-preserved : goal.loop-edge-preserved
loop-edge-preserved c = more c.args.table.now.marks c.loop-edge.edge c.loop-edge.count c.marks.result.now (omega arith) c.marks.ensures.value c.loop-edge.invariant
