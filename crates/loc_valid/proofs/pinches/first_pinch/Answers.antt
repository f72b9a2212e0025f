use Rattle.std.proofs.Common.{subst}
use Rattle.std.specs.List.Sorted.{IsPermutation}
use Rattle.loc_valid.specs.Pinches.{IsFirstThrice}
use Rattle.loc_valid.proofs.Thrice.{pinch_is}
use Rattle.loc_valid.proofs.pinches.first_pinch.Goals as goal

pub returns : goal.returns
returns c = pinch_is c.args.feature.now.polygons c.args.table.now c.law.ensures.in_order c.requires.features c.sort_unstable.new.self.items
    (subst (λ ends. IsPermutation ends c.sort_unstable.new.self.items) c.in_ok-pairs.ensures c.sort_unstable.ensures.permutation)
    c.first_thrice.result (subst (λ pairs. IsFirstThrice pairs c.first_thrice.result) c.deref.ensures.value c.first_thrice.ensures)
