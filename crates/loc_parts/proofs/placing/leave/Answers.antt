use Rattle.std.proofs.Common.{refl, sym, subst}
use Rattle.std.specs.Prelude.{List}
use Rattle.loc_parts.specs.{Parts.IsPartedBut, declared.parts.Left.Left}
use Rattle.loc_parts.proofs.Settled.{as_left, more_left}
use Rattle.loc_parts.proofs.placing.leave.Goals as goal

pub returns : goal.returns
returns c layer rests parts rest but =
    let one : Left = record { numbers = c.args.rest.numbers; boxed = c.in_ok-boxed.boxed } in
    let is = as_left layer c.args.rest.numbers.items c.args.rest.features one rest refl c.in_ok-boxed.ensures in
    subst (λ (ls : List Left). IsPartedBut layer rests parts ls) (sym c.in_ok-push.ensures.items) (more_left layer rests parts c.args.left.now.items one but is)
