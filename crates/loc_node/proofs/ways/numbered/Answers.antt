use Rattle.std.proofs.Common.{◌∷◌, ◌++◌, [], map, take, sym, ◌∙◌, ap, arith, to_z-of_z, ℤ}
use Rattle.std.specs.Int.{w128}
use Rattle.std.proofs.{lemmas.Int.ints, lemmas.List.map_more}
use borrow.Author.Differences.{fits_in}
use Rattle.loc_spec_plane.specs.Points.{Point}
use Rattle.loc_laws_noding.specs.Search.{number_along}
use Rattle.loc_node.proofs.ways.numbered.Goals as goal

pub loop-p-preserved : goal.loop-p-preserved
loop-p-preserved c =
    let points = c.args.points.now in
    let k = c.loop-p.p-index in
    let p = c.p-item.result in
    let f : Point → ℤ × Point = λ q. (number_along c.args.edge q, q) in
    let fits = to_z-of_z (fits_in w128 c.side_number.result (omega (arith, ints, c.side_number.type_inv))) in
    let pair : ℤ → Point → ℤ × Point = λ n q. (n, q) in
    let same = ap (λ n. pair n c.p-item.result) (fits ∙ c.side_number.ensures) in
    c.in_ok-push.ensures.items
    ∙ (ap (λ x. c.loop-p.order.items ++ x ∷ []) same
    ∙ (ap (λ xs. xs ++ f p ∷ []) c.loop-p.invariant
    ∙ (ap (λ (q : Point). map f (take k points) ++ f q ∷ []) c.p-item.is
    ∙ sym (map_more f points k p c.loop-p-test.true))))
