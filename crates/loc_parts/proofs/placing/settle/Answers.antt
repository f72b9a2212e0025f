use Rattle.std.proofs.Common.{refl, sym, subst}
use Rattle.std.specs.Prelude.{List}
use Rattle.loc_parts.specs.{Parts.IsPartedBut, declared.parts.Part.Part}
use Rattle.loc_parts.proofs.Settled.{as_part, more_parts}
use Rattle.loc_parts.proofs.placing.settle.Goals as goal

pub returns-in_ok-push-in-Ok-clause-settled : goal.returns-in_ok-push-in-Ok-clause-settled
returns-in_ok-push-in-Ok-clause-settled c layer rests rest but =
    let one : Part = record { numbers = c.args.rest.numbers; plane = c.in-Ok.plane } in
    let is = as_part layer c.args.rest.numbers.items c.args.rest.features one rest refl c.in-Ok.ensures.map c.in-Ok.ensures.swept in
    subst (λ (ps : List Part). IsPartedBut layer rests ps c.args.left.now.items) (sym c.in_ok-push-in-Ok.ensures.items) (more_parts layer rests c.args.parts.now.items c.args.left.now.items one but is)
