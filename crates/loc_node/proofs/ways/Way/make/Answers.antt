use Rattle.std.proofs.Common.{◌≡◌, sym, ◌∙◌, ap, subst, ℤ}
use Rattle.std.specs.{Prelude.All, List.Sorted.IsPermutation}
use Rattle.std.proofs.lemmas.List.Sorted.{All-permutation, IsPermutation-map}
use Rattle.loc_spec_plane.specs.Points.{Point}
use Rattle.loc_laws_noding.specs.Search.{number_along}
use Rattle.loc_node.specs.Ways.{points_along}
use Rattle.loc_node.proofs.Along.{numbered_all, numbered_points, way_sorted}
use Rattle.loc_node.proofs.ways.Way.make.Goals as goal

pub invariant_of-result : goal.invariant_of-result
invariant_of-result c = record {
  goes_up = c.hi-upper.ensures.goes_up;
  numbers = All-permutation (λ (k : ℤ × Point). k.0 ≡ number_along c.args.edge k.1) _ _ c.sort_unstable.ensures.permutation (subst (All (λ (k : ℤ × Point). k.0 ≡ number_along c.args.edge k.1)) (sym c.in_ok-order.ensures) (numbered_all c.args.edge c.args.points.now));
  sorted = way_sorted _ c.sort_unstable.ensures.sorted;
}

pub returns : goal.returns
returns c =
    let moved = IsPermutation-map (λ (k : ℤ × Point). k.1) c.in_ok-order.order.items c.sort_unstable.new.self.items c.sort_unstable.ensures.permutation in
    subst (λ ps. IsPermutation ps (points_along c.sort_unstable.new.self.items)) (ap points_along c.in_ok-order.ensures ∙ numbered_points c.args.edge c.args.points.now) moved
