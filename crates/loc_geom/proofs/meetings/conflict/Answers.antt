use Rattle.std.proofs.Common.{◌≡◌, ◌∙◌, sym, true}
use Rattle.std.proofs.lemmas.Bool.{and_from}
use Rattle.loc_spec_plane.specs.Points.{is_parted, touch}
use Rattle.loc_laws_order.proofs.Tests.{touch-conflict, cross-conflict}
use Rattle.loc_geom.proofs.meetings.conflict.Goals as goal

pub returns-then-are_opposite-2 : goal.returns-then-are_opposite-2
returns-then-are_opposite-2 c =
    let first : is_parted c.args.a c.args.b ≡ true = rw (← c.turns_of-of_a.ensures.lower, ← c.turns_of-of_a.ensures.upper) (sym c.are_opposite.ensures ∙ c.if-are_opposite.true) in
    let second : is_parted c.args.b c.args.a ≡ true = rw (← c.turns_of-of_b.ensures.lower, ← c.turns_of-of_b.ensures.upper) (sym c.are_opposite-then-are_opposite.ensures ∙ c.if-are_opposite-2.true) in
    let crossed = and_from (is_parted c.args.a c.args.b) (is_parted c.args.b c.args.a) first second in
    (cross-conflict c.args.a c.args.b crossed, crossed)

pub returns-then-touches : goal.returns-then-touches
returns-then-touches c =
    let touched : touch c.args.a c.args.b ≡ true = sym c.touches.ensures ∙ c.if-touches.true in
    (touch-conflict c.args.a c.args.b touched, touched)
