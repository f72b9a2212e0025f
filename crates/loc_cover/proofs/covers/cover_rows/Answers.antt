use Rattle.std.proofs.Common.{None, get_or, sym, ◌∙◌, ap}
use Rattle.loc_cover.proofs.Lasting.{above_at, few_are, known_fits, lists_are}
use Rattle.loc_cover.proofs.covers.cover_rows.Goals as goal

pub distinct_rows-made-requires-clause-in_range : goal.distinct_rows-made-requires-clause-in_range
distinct_rows-made-requires-clause-in_range c = λ e n is. known_fits c.args.table.now c.in_ok-store.store.rows c.in_ok-store.numbers.items c.in_ok-store.ensures.numbered e n (sym (ap (λ xs. get_or xs e None) c.deref.ensures.value) ∙ is)

pub returns-in-Ok-clause-lists : goal.returns-in-Ok-clause-lists
returns-in-Ok-clause-lists c = c.in-Ok.ensures.lists ∙ lists_are c.args.table.now c.in_ok-store.store c.in_ok-store.numbers.items c.in_ok-store.ensures.stands c.in_ok-store.ensures.numbered c.in_ok-store.ensures.known

pub returns-in-Ok-clause-above : goal.returns-in-Ok-clause-above
returns-in-Ok-clause-above c = λ e le. above_at c.args.table.now c.in_ok-store.store c.in_ok-store.numbers.items c.in_ok-store.ensures.stands c.in_ok-store.ensures.numbered c.in_ok-store.ensures.known c.in-Ok.rows.1.items e le
    (λ d n is. c.in-Ok.ensures.above d n (ap (λ xs. get_or xs d None) c.deref.ensures.value ∙ is))

pub returns-in-Ok-clause-few : goal.returns-in-Ok-clause-few
returns-in-Ok-clause-few c = few_are c.args.table.now c.in_ok-store.store c.in_ok-store.numbers.items c.in_ok-store.ensures.stands c.in_ok-store.ensures.numbered c.in_ok-store.ensures.known
