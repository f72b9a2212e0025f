use Rattle.std.proofs.Common.{◌∙◌, sym, ap}
use Rattle.std.proofs.lemmas.List.{take_all}
use Rattle.loc_spec_plane.specs.Lists.{exactly_one, odd_many}
use Rattle.loc_verify.specs.Least.{is_odd_in}
use Rattle.loc_verify.proofs.Odd.{adds_even, adds_odd, is_of, odd_marks}
use Rattle.loc_verify.proofs.features.add_odd.Goals as goal
use Rattle.loc_verify.proofs.features.add_odd.Goals.{then-mark+in_ok-push, else-mark}

pub loop-mark-preserved : goal.loop-mark-preserved
loop-mark-preserved c = elim c.if-mark.branch [
  | then-mark+in_ok-push w ↦ rw w.row-is (λ f. adds_odd c.args.row.now.items c.loop-mark.row.items c.args.marks.now c.loop-mark.mark-index _ f c.loop-mark-test.true (c.loop-mark.invariant f) w.push.new.self.items w.if-mark.true w.in_ok-push.ensures.items)
  | else-mark w ↦ rw w.row-is (λ f. adds_even c.args.row.now.items c.loop-mark.row.items c.args.marks.now c.loop-mark.mark-index _ f c.loop-mark-test.true (c.loop-mark.invariant f) w.if-mark.false)
]

pub returns : goal.returns
returns c = λ f. c.loop-mark.invariant f ∙ ap (exactly_one (is_odd_in f c.args.row.now.items)) (ap (odd_many (is_of f)) (take_all c.loop-mark.mark-index c.args.marks.now c.loop-mark-test.false) ∙ sym (odd_marks f c.args.marks.now c.requires))
