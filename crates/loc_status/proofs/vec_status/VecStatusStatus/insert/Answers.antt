use Rattle.std.proofs.Common.{rules, ◌≡◌, ◌+◌, ◌<◌, ◌++◌, ◌∷◌, take, drop, ◌∙◌, ap, refl, sym, subst, length, Some, slice_get}
use Rattle.std.specs.Prelude.{IsOk, max}
use Rattle.std.proofs.{lemmas.Option.slice_get-get_or, lemmas.List.take-append-drop}
use Rattle.loc_status.specs.Lists.{IsBeside, IsPlaceFor}
use Rattle.loc_status.proofs.vec_status.VecStatusStatus.insert.Goals as goal

pub returns-clause-beside : goal.returns-clause-beside
returns-clause-beside c =
    let items = c.insert.new.self.items in
    let place = c.in_ok-place.place in
    let ok : IsOk c.insert.result = search rules in
    let fits : place < length items = search rules in
    let at : slice_get items place ≡ Some c.args.edge = slice_get-get_or items place 0 fits ∙ ap (λ k. Some k) (c.insert.ensures.by_index.0 0 ok) in
    subst (λ es. IsBeside c.args.edge es c.neighbours_at.result) c.deref-2.ensures.value (c.neighbours_at.ensures c.args.edge (subst (λ es. slice_get es place ≡ Some c.args.edge) (sym c.deref-2.ensures.value) at))

pub returns-clause-ok : goal.returns-clause-ok
returns-clause-ok c =
    let t = c.args.ranks.now in
    let items = c.self.inside.list.items in
    let place = c.in_ok-place.place in
    let ok : IsOk c.insert.result = search rules in
    let there : IsPlaceFor t c.args.edge items place = subst (λ es. IsPlaceFor t c.args.edge es place) c.deref.ensures.value c.in_ok-place.ensures.ok in
    let grown : c.insert.new.self.items ≡ take place items ++ c.args.edge ∷ drop place items = rw ok at c.insert.ensures.items in
    rw (← c.self.view_is) (record {
      list = record { front = take place items; back = drop place items; old_is = sym (take-append-drop place items); new_is = grown; behind = there.behind; ahead = there.ahead };
      kept = record { sealed_lists = refl; sealed = refl };
      inserted = refl;
      removed = refl;
      past_greatest = c.max-self-inside.ensures ∙ ap (λ e. max c.self.inside.past_greatest (e + 1)) c.from.ensures;
      is_changed = refl;
    })
