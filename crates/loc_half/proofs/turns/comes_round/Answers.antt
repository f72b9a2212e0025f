use Rattle.std.proofs.Common.{◌≡◌, sym, ap₂, ◌∙◌}
use Rattle.std.proofs.lemmas.Bool.{eq-eqb}
use Rattle.loc_spec_plane.specs.Places.{lower, lower_of}
use Rattle.loc_half.proofs.turns.comes_round.Goals as goal

pub returns-in-true-true : goal.returns-in-true-true
returns-in-true-true c =
    let is : c.lower.result ≡ lower_of c.args.table.now c.args.a c.args.b = c.lower.ensures ∙ ap₂ lower c.edge.ensures c.edge-in-true-true.ensures in
    rw (eq-eqb _ _ (sym c.ends-a_lo.ensures.lower ∙ c.in-true-true.is-0), eq-eqb _ _ (sym c.ends-b_lo.ensures.lower ∙ c.in-true-true.is-1)) is
