use Rattle.std.proofs.Common.{◌≡◌, ◌-◌, false, get_or, length, ap, ◌∙◌, arith}
use Rattle.std.specs.{Prelude.count_by, List.range_with_len}
use Rattle.loc_valid.proofs.{Covered.count_more, PinchEnds.one_if}
use Rattle.loc_valid.proofs.parts.count_covered.Goals as goal
use Rattle.loc_valid.proofs.parts.count_covered.Goals.{then-covered-face, else-covered-face}

pub loop-face-preserved : goal.loop-face-preserved
loop-face-preserved c =
    let more = count_more (λ f. get_or c.args.covered.now f false) c.loop-face.face c.loop-face.auto.face in
    elim c.if-covered-face.branch [
      | then-covered-face w ↦ (let one : one_if (get_or c.args.covered.now c.loop-face.face false) ≡ 1 = ap one_if w.if-covered-face.true in (omega (arith, more, one, w.parts-is, c.loop-face.invariant.0), omega (arith, w.parts-is, c.loop-face.invariant.1)))
      | else-covered-face w ↦ (let none : one_if (get_or c.args.covered.now c.loop-face.face false) ≡ 0 = ap one_if w.if-covered-face.false in (omega (arith, more, none, w.parts-is, c.loop-face.invariant.0), omega (arith, w.parts-is, c.loop-face.invariant.1)))
    ]

pub returns : goal.returns
returns c =
    let same : c.loop-face.face - 1 ≡ length c.args.covered.now - 1 = omega (arith, c.loop-face-test.false, c.loop-face.auto.face-end, c.requires.some) in
    c.loop-face.invariant.0 ∙ ap (λ n. count_by (λ f. get_or c.args.covered.now f false) (range_with_len 1 n)) same
