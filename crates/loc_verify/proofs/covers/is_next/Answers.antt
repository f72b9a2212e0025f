use Rattle.std.proofs.Common.{◌∙◌, List, ℕ, [], get_or, sym, subst}
use Rattle.std.specs.Prelude.{nat_lt}
use Rattle.std.proofs.lemmas.Option.{get_or_from_slice_get}
use Rattle.loc_spec_plane.specs.{declared.Mark.Mark, Lists.exactly_one, Lists.is_in, Lists.IsRisingListOf}
use Rattle.loc_cover.specs.{Exchanges.is_marked_odd, Legends.list_over}
use Rattle.loc_verify.proofs.covers.is_next.Goals as goal

pub returns : goal.returns
returns c = λ same.
    (let t = c.args.table.now in
    let below = list_over c.args.legend.now c.args.below in
    let marks = get_or_from_slice_get t.marks c.args.edge c.marks.result.now [] c.marks.ensures.value in
    let made = subst (λ (xs : List ℕ). IsRisingListOf nat_lt (λ f. exactly_one (is_marked_odd c.marks.result.now f) (is_in f xs)) c.exchange_odd.new.list.items) c.in_ok-put_over.ensures c.in_ok-exchange_odd.ensures in
    subst (IsRisingListOf nat_lt (λ f. exactly_one (is_marked_odd (get_or t.marks c.args.edge []) f) (is_in f below))) (sym (sym c.above.ensures ∙ (c.is_same.ensures same ∙ c.as_slice.ensures.value)))
    (subst (λ (ms : List Mark). IsRisingListOf nat_lt (λ f. exactly_one (is_marked_odd ms f) (is_in f below)) c.exchange_odd.new.list.items) (sym marks) made))
