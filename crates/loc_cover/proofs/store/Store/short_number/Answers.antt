use Rattle.std.proofs.Common.{◌<◌, length, None, sym, ◌∙◌, subst, arith}
use Rattle.std.proofs.lemmas.List.{get_or_read}
use Rattle.loc_cover.specs.Stores.{StoreRows}
use Rattle.loc_cover.proofs.ShortLists.{if_some}
use Rattle.loc_cover.proofs.store.Store.short_number.Goals as goal

pub returns-then-place-len-clause-within : goal.returns-then-place-len-clause-within
returns-then-place-len-clause-within c = if_some (λ n. n < length c.args.self.now.rows) c.index.result.now (λ n is. subst (λ (s : StoreRows). n < length s.rows) c.self.view_is
    (c.self.invariant c.in_ok-place.place n (sym (get_or_read c.self.inside.short.items c.in_ok-place.place c.index.result.now (omega (arith, c.if-place-len.true, c.len.ensures)) c.index.ensures None) ∙ is)).0)
