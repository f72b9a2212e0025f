use Rattle.std.proofs.Common.{◌≡◌, ◌<◌, [], length, get_or, map, sym, ◌∙◌, subst}
use Rattle.loc_cover.specs.Stores.{AreShort, StoreRows}
use Rattle.loc_cover.proofs.ShortLists.{short_more}
use Rattle.loc_cover.proofs.store.Store.note_short.Goals as goal

pub invariant_of-self : goal.invariant_of-self
invariant_of-self c = subst (λ xs. AreShort (map (λ row. row.now) c.self.inside.rows.items) xs) (sym c.in_err-note_at.ensures.err) c.self.invariant

pub invariant_of-self-2 : goal.invariant_of-self-2
invariant_of-self-2 c = short_more (map (λ row. row.now) c.self.inside.rows.items) c.self.inside.short.items c.note_at.new.numbers.items c.in-Some.place c.args.number c.self.invariant
    (subst (λ (s : StoreRows). c.args.number < length s.rows) (sym c.self.view_is) c.requires.within)
    (subst (λ (s : StoreRows). get_or s.rows c.args.number [] ≡ c.args.list.now) (sym c.self.view_is) c.requires.found ∙ sym c.in-Some.ensures.found)
    c.in_ok-note_at.ensures.here c.note_at.ensures.others
