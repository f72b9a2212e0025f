use Rattle.std.proofs.Common.{◌∙◌, ap, arith, ltb-true, Some}
use Rattle.std.proofs.lemmas.Option.{get_or_from_slice_get, slice_get-get_or, slice_get_within}
use Rattle.std.proofs.lemmas.Bool.{eq-eqb, eqb-true}
use Rattle.loc_verify.proofs.reading.has_at.Goals as goal

pub returns-then-position-list : goal.returns-then-position-list
returns-then-position-list c = (λ same. slice_get-get_or c.args.list.now c.args.position 0 c.if-position-list.true ∙ ap (λ n. Some n) (eqb-true _ _ same), λ there. eq-eqb _ _ (get_or_from_slice_get c.args.list.now c.args.position c.args.item 0 there))

pub returns-else-position-list : goal.returns-else-position-list
returns-else-position-list c = (λ less. absurd (omega (arith, ltb-true _ _ less, c.if-position-list.false)), λ there. absurd (omega (arith, slice_get_within c.args.list.now c.args.position c.args.item there, c.if-position-list.false)))

pub bounds-list-position : goal.bounds-list-position
bounds-list-position c = c.if-position-list.true
