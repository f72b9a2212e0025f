use Rattle.std.proofs.Common.{◌≡◌, ◌∙◌, ap, refl, sym, subst, Some, slice_get}
use Rattle.loc_status.specs.{Lists.IsBeside, Lists.IsRemoved, Meaning.StatusMeaning}
use Rattle.loc_status.proofs.Ends.{taken_out}
use Rattle.loc_status.proofs.vec_status.VecStatusStatus.remove.Goals as goal

pub returns-clause-ok : goal.returns-clause-ok
returns-clause-ok c =
    let items = c.self.inside.list.items in
    let at = subst (λ es. slice_get es c.place_of-place.result ≡ Some c.args.edge) c.deref.ensures.value c.place_of-place.ensures in
    rw (← c.self.view_is) (record {
      list = subst (λ es. IsRemoved c.args.edge items es) (sym c.remove.ensures.items) (taken_out items c.place_of-place.result c.args.edge at);
      kept = record { sealed_lists = refl; sealed = refl };
      inserted = refl;
      removed = refl;
      past_greatest = refl;
      is_changed = refl;
    })

pub returns-clause-beside : goal.returns-clause-beside
returns-clause-beside c =
    let at = subst (λ es. slice_get es c.place_of-place.result ≡ Some c.args.edge) (c.deref.ensures.value ∙ sym c.deref-2.ensures.value) c.place_of-place.ensures in
    subst (λ es. IsBeside c.args.edge es c.neighbours_at-beside.result) (c.deref-2.ensures.value ∙ ap (λ (m : StatusMeaning). m.list) c.self.view_is) (c.neighbours_at-beside.ensures c.args.edge at)
