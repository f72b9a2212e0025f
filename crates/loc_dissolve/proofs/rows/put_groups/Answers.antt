use Rattle.std.proofs.Common.{get_or, map, ◌∙◌, ap}
use Rattle.std.specs.Prelude.{count_by, ◌==◌}
use Rattle.std.proofs.{lemmas.List.take_all, lemmas.List.Sorted.sum_by-IsPermutation}
use Rattle.loc_dissolve.proofs.Counted.{count-map, one}
use Rattle.loc_dissolve.proofs.rows.put_groups.Goals as goal

pub returns : goal.returns
returns c = record {
  in_order = c.sort_unstable.ensures.sorted;
  counted = λ g. sum_by-IsPermutation (λ h. one (h == g)) _ _ c.sort_unstable.ensures.permutation
      ∙ (ap (count_by (λ h. h == g)) (c.loop-feature.invariant ∙ ap (map (λ f. get_or c.args.groups.now f 0)) (take_all c.loop-feature.feature-index c.args.features.now c.loop-feature-test.false))
      ∙ count-map (λ h. h == g) (λ f. get_or c.args.groups.now f 0) c.args.features.now);
}
