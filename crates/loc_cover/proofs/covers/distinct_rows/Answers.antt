use Rattle.std.proofs.Common.{◌<◌, [], get_or, length, sym, ◌∙◌, ap, subst}
use Rattle.loc_cover.specs.Stores.{IsAt, lists_of}
use Rattle.loc_cover.proofs.covers.distinct_rows.Goals as goal

pub above_of-requires : goal.above_of-requires
above_of-requires c = record { in_range = λ e n is. subst (λ k. n < k) (sym (ap length c.deref.ensures.value ∙ c.in_ok-places.ensures.as_many)) (c.requires.in_range e n is) }

pub returns-clause-above : goal.returns-clause-above
returns-clause-above c = λ e n is. subst (λ k. IsAt (lists_of c.args.store.now) (get_or c.args.store.now.rows n []) k) (sym (c.in_ok-above.ensures.each e n is ∙ ap (λ xs. get_or xs n 0) c.deref.ensures.value)) (c.in_ok-places.ensures.each n (c.requires.in_range e n is))
