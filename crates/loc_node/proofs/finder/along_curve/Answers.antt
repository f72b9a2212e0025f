use Rattle.std.proofs.Common.{ℕ, ◌∙◌, sym, ap, map, subst}
use Rattle.std.specs.List.Sorted.{IsPermutation}
use Rattle.std.proofs.{lemmas.List.Sorted.IsPermutation-map, lemmas.Result.IfOk-weaker}
use Rattle.loc_spec_plane.specs.Points.{Point}
use Rattle.loc_node.proofs.finder.along_curve.Goals as goal

pub returns : goal.returns
returns c =
    let second : ℕ × Point → Point = λ k. k.1 in
    let old = c.in_ok-keyed.keyed.items in
    let new = c.sort_by_key.new.self.items in
    let moved : IsPermutation (map second old) (map second new) = IsPermutation-map second old new c.sort_by_key.ensures.permutation in
    let from : IsPermutation c.args.corners.now (map second new) = subst (λ ps. IsPermutation ps (map second new)) c.in_ok-keyed.ensures moved in
    IfOk-weaker c.points_of.result _ (λ points. IsPermutation c.args.corners.now points.items) (λ points is. subst (IsPermutation c.args.corners.now) (sym (is ∙ ap (map second) c.deref.ensures.value)) from) c.points_of.ensures
