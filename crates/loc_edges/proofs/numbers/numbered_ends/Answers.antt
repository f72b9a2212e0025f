use Rattle.std.proofs.Common.{◌≡◌, ℕ, ◌+◌, ◌++◌, ◌∷◌, [], List, take, map, sym, ◌∙◌, ap}
use Rattle.std.proofs.lemmas.List.{map_push, take_all, take_more}
use Rattle.loc_spec_plane.specs.{Points.Edge, Tables.number_of}
use Rattle.loc_edges.proofs.numbers.numbered_ends.Goals as goal

pub loop-edge-preserved : goal.loop-edge-preserved
loop-edge-preserved c =
    let corners = c.args.corners.now in
    let edges : List Edge = c.args.edges.now in
    let numbered : Edge → ℕ × ℕ = λ e. (number_of corners e.lo, number_of corners e.hi) in
    let k = c.loop-edge.edge-index in
    let edge : Edge = c.edge-item.result in
    let before = c.loop-edge.ends.items in
    let more : take (k + 1) edges ≡ take k edges ++ edge ∷ [] = take_more edges k edge c.loop-edge-test.true ∙ ap (λ e. take k edges ++ e ∷ []) (sym c.edge-item.is) in
    let lo : c.corner_number_near-lo.result ≡ number_of corners edge.lo = c.corner_number_near-lo.ensures.number ∙ ap (number_of corners) c.lo.ensures in
    let hi : c.corner_number-hi.result ≡ number_of corners edge.hi = c.corner_number-hi.ensures.number ∙ ap (number_of corners) c.hi.ensures.value in (
      c.in_ok-push.ensures.items
          ∙ (ap (λ n. before ++ (n, c.corner_number-hi.result) ∷ []) lo
          ∙ (ap (λ n. before ++ (number_of corners edge.lo, n) ∷ []) hi
          ∙ (ap (λ ends. ends ++ numbered edge ∷ []) c.loop-edge.invariant.0
          ∙ (sym (map_push numbered (take k edges) edge) ∙ ap (map numbered) (sym more))))),
      c.corner_number_near-lo.ensures.within,
    )

pub returns : goal.returns
returns c = c.loop-edge.invariant.0 ∙ ap (map (λ (e : Edge). (number_of c.args.corners.now e.lo, number_of c.args.corners.now e.hi))) (take_all c.loop-edge.edge-index c.args.edges.now c.loop-edge-test.false)
