use Rattle.std.proofs.Common.{suc, ◌+◌, ◌∙◌, ap, sym, subst, arith, slice_get}
use Rattle.std.specs.Prelude.{◌≡◌}
use Rattle.loc_status.specs.Lists.{IsNextAbove}
use Rattle.loc_status.proofs.Ends.{next_below, next_above}
use Rattle.loc_status.proofs.places.neighbours_at.Goals as goal

pub returns : goal.returns
returns c = λ edge at.
    (let es = c.args.list.now in
    let next : c.args.place + 1 ≡ suc c.args.place = omega arith in
    record {
      below = next_below es c.args.place edge c.before-2.result at c.before-2.ensures.first c.before-2.ensures.later;
      above = subst (λ o. IsNextAbove edge es o) (sym (c.behind.ensures ∙ ap (λ k. slice_get es k) next)) (next_above es c.args.place edge at);
    })
