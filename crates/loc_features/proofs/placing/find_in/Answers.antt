use Rattle.std.proofs.Common.{◌≡◌, ◌≢◌, ◌<◌, List, length, get_or, sym, ◌∙◌, ap, subst, arith, inl, inr, get_or-set_other, get_or-set_same}
use Rattle.std.specs.Prelude.{set}
use Rattle.std.proofs.{lemmas.Bool.cases_eq, lemmas.List.get_or_default}
use Rattle.loc_parts.specs.declared.parts.Part.{Part}
use Rattle.loc_features.specs.Places.{IsAt}
use Rattle.loc_features.proofs.Placed.{places_many, places_more}
use Rattle.loc_features.proofs.placing.find_in.Goals as goal

pub loop-k-preserved : goal.loop-k-preserved
loop-k-preserved g c =
    let parts = c.args.parted.now.parts.items in
    let k = c.loop-k.k in
    let part = c.part-item.result in
    let places = c.loop-k.places in
    let at : part ≡ get_or parts k part = c.part-item.is ∙ ap (λ (all : List Part). get_or all k part) c.deref-part-items.ensures.value in
    let lt : k < length parts = omega (arith, c.loop-k-test.true, ap length c.deref-part-items.ensures.value) in
    let few = c.requires.few in
    let many = places_many g.row.N parts c.args.p k places few (omega (arith, lt)) c.loop-k.invariant.places in
    record {
      places = places_more g.row.N parts c.args.p k part places c.place_in.result few lt at c.place_in.ensures.found c.loop-k.invariant.places;
      known = λ j d e less. elim (cases_eq j k) [
        | inl same ↦ (let own = subst (λ (one : Part). IsAt one c.args.p c.place_in.result) (at ∙ get_or_default parts k part d lt) c.place_in.ensures.place in
            subst (λ i. IsAt (get_or parts i d) c.args.p (get_or (set places k c.place_in.result) i e)) (sym same) (subst (IsAt (get_or parts k d) c.args.p) (sym (get_or-set_same places k c.place_in.result e (omega (arith, many, few, lt)))) own))
        | inr other ↦ (let differ : j ≢ k = other in
            subst (IsAt (get_or parts j d) c.args.p) (sym (get_or-set_other places k j c.place_in.result e differ)) (c.loop-k.invariant.known j d e (omega (arith, less, differ))))
      ];
      up = omega (arith, c.loop-k.invariant.up, c.place_in.ensures.counted);
      within = omega (arith, c.loop-k.invariant.within, c.place_in.ensures.within);
    }
