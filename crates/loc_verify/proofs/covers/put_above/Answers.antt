use Rattle.std.proofs.Common.{◌∙◌, List, [], sym, ap, subst}
use Rattle.std.specs.Prelude.{nat_lt}
use Rattle.std.proofs.{lemmas.Option.get_or_from_slice_get, lemmas.Result.on_ok_weaker}
use Rattle.loc_spec_plane.specs.{declared.Mark.Mark, Covers.cover_of_floor}
use Rattle.loc_spec_plane.specs.Lists.{exactly_one, is_in, is_rising, IsRisingListOf}
use Rattle.loc_cover.specs.Exchanges.{is_marked_odd}
use Rattle.loc_cover.proofs.Numbering.{list_is, under_rises}
use Rattle.loc_verify.proofs.Wrong.{below_begins}
use Rattle.loc_verify.proofs.covers.put_above.Goals as goal

pub put_under-requires-clause-in_range : goal.put_under-requires-clause-in_range
put_under-requires-clause-in_range c = (below_begins c.args.table.now c.law.ensures.in_order c.args.edge c.requires.in_range c.args.below c.requires.just_below).0

pub put_under-requires-clause-begun : goal.put_under-requires-clause-begun
put_under-requires-clause-begun c = rw c.ends.ensures.lower (below_begins c.args.table.now c.law.ensures.in_order c.args.edge c.requires.in_range c.args.below c.requires.just_below).1

pub exchange_odd-requires-clause-in_order : goal.exchange_odd-requires-clause-in_order
exchange_odd-requires-clause-in_order c = ap (is_rising nat_lt) c.in_ok-put_under.ensures ∙ under_rises c.args.table.now c.args.below

pub returns : goal.returns
returns c =
    let t = c.args.table.now in
    let marks = get_or_from_slice_get t.marks c.args.edge c.marks.result.now [] c.marks.ensures.value in
    on_ok_weaker c.exchange_odd.result
    (λ made. list_is t c.law.ensures.in_order c.requires.even.all_ends c.requires.even.all_even c.requires.even.apart c.args.edge c.requires.in_range c.args.below c.exchange_odd.new.list.items c.requires.just_below
    (subst (λ (ms : List Mark). IsRisingListOf nat_lt (λ f. exactly_one (is_marked_odd ms f) (is_in f (cover_of_floor t c.args.below))) c.exchange_odd.new.list.items) (sym marks) (subst (λ xs. IsRisingListOf nat_lt (λ f. exactly_one (is_marked_odd c.marks.result.now f) (is_in f xs)) c.exchange_odd.new.list.items) c.in_ok-put_under.ensures made)))
    c.exchange_odd.ensures
