use Rattle.std.proofs.Common.{ℕ, map, sym, ◌∙◌, arith}
use Rattle.std.proofs.lemmas.List.{ext_get_or, get_or-map, length-map}
use Rattle.loc_spec_plane.specs.Points.{Edge}
use Rattle.loc_laws_order.proofs.TableOrder.{origin_point}
use Rattle.loc_node.specs.Pieces.{with_feature}
use Rattle.loc_node.proofs.pieces.put_features.Goals as goal

pub returns : goal.returns
returns c =
    let d : Edge × ℕ = (record { lo = origin_point; hi = origin_point }, 0) in
    let old = c.args.pieces.now in
    let tagged = c.args.tagged.now in
    ext_get_or d c.loop-n.pieces (map (with_feature tagged) old) (c.loop-n.invariant.as_many ∙ sym (length-map old (with_feature tagged)))
    (λ k fits. c.loop-n.invariant.done k d (omega (arith, fits, c.loop-n.invariant.as_many, c.loop-n-test.false)) ∙ sym (get_or-map (with_feature tagged) old k d d (omega (arith, fits, c.loop-n.invariant.as_many))))
