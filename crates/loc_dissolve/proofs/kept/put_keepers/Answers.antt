use Rattle.std.proofs.Common.{◌≡◌, ◌+◌, ◌<◌, ◌++◌, ◌∷◌, [], ℕ, List, get_or, take, true, sym, ◌∙◌, ap, subst}
use Rattle.std.specs.Prelude.{All, nat_lt}
use Rattle.std.proofs.lemmas.List.{take_all}
use Rattle.loc_spec_plane.specs.Lists.{is_rising}
use Rattle.loc_dissolve.proofs.Keepers.{GainsTo, all_more, does_change, gains_none, gains_one}
use Rattle.loc_dissolve.proofs.kept.put_keepers.Goals as goal
use Rattle.loc_dissolve.proofs.kept.put_keepers.Goals.{then-changes+in_ok-push, else-changes}

pub loop-group-preserved : goal.loop-group-preserved
loop-group-preserved c =
    let test = does_change c.args.crossing.now c.args.above.now in
    let gs = c.groups-group-items.result.now in
    let i = c.loop-group.group-index in
    let lt = c.loop-group-test.true in
    let so_far = c.loop-group.invariant.gained in
    let up : is_rising nat_lt c.groups-group-items.result.now ≡ true = subst (λ (ns : List ℕ). is_rising nat_lt ns ≡ true) (sym c.groups-group-items.ensures) c.requires.distinct in
    elim c.if-changes.branch [
      | then-changes+in_ok-push w ↦
          (let is : c.if-changes.kept.items ≡ c.loop-group.kept.items ++ (get_or c.groups-group-items.result.now c.loop-group.group-index 0, c.args.edge) ∷ [] = ap (λ v. v.items) w.kept-is ∙ w.in_ok-push.ensures.items in
          record {
            gained = gains_one test c.args.edge gs i lt c.args.kept.now.items c.loop-group.kept.items so_far up (sym c.changes.ensures ∙ w.if-changes.true) c.if-changes.kept.items is;
            within = λ count olds fits. all_more count c.loop-group.kept.items c.if-changes.kept.items (get_or gs i 0) c.args.edge is (c.loop-group.invariant.within count olds fits) (fits i 0 lt);
          })
      | else-changes w ↦ record {
        gained = subst (λ (l : List (ℕ × ℕ)). GainsTo test c.args.edge (take (i + 1) gs) c.args.kept.now.items l) (sym (ap (λ v. v.items) w.kept-is)) (gains_none test c.args.edge gs i lt c.args.kept.now.items c.loop-group.kept.items so_far (sym c.changes.ensures ∙ w.if-changes.false));
        within = λ count olds fits. subst (All (λ (pair : ℕ × ℕ). pair.0 < count)) (sym (ap (λ v. v.items) w.kept-is)) (c.loop-group.invariant.within count olds fits);
      }
    ]

pub returns-clause-gained : goal.returns-clause-gained
returns-clause-gained c = subst (λ (gs : List ℕ). GainsTo (does_change c.args.crossing.now c.args.above.now) c.args.edge gs c.args.kept.now.items c.loop-group.kept.items)
    (take_all c.loop-group.group-index c.groups-group-items.result.now c.loop-group-test.false ∙ c.groups-group-items.ensures) c.loop-group.invariant.gained

pub returns-clause-within : goal.returns-clause-within
returns-clause-within c = λ count olds gs. c.loop-group.invariant.within count olds (subst (All (λ g. g < count)) (sym c.groups-group-items.ensures) gs)
