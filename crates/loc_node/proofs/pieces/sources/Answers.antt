use Rattle.std.proofs.Common.{◌≡◌, ℕ, ◌+◌, true, false, not, List, [], ◌∷◌, ◌++◌, get_or, map, take, refl, sym, ◌∙◌, ap, Vec, Global}
use Rattle.std.specs.List.{dedup}
use Rattle.std.proofs.lemmas.Bool.{both_ways, true≢false}
use Rattle.std.proofs.lemmas.List.{get_or_default, map-append, take_all}
use Rattle.loc_spec_plane.specs.Points.{Edge, same_edge}
use Rattle.loc_laws_order.proofs.TableOrder.{origin_point}
use Rattle.loc_edges.specs.Tagged.{segments_in}
use Rattle.loc_edges.proofs.EdgeRows.{edges_left, edges_more}
use Rattle.loc_edges.proofs.Tagged.{in_order as edges_in_order}
use Rattle.loc_node.specs.Pieces.{first_with}
use Rattle.loc_node.proofs.{PieceOrder.by_edge_first, Placed.by_cmp, Placed.first_is}
use Rattle.loc_node.proofs.pieces.sources.Goals as goal
use Rattle.loc_node.proofs.pieces.sources.Goals.{then-not-is_again+in_ok-push, else-not-is_again}

pub loop-n-preserved : goal.loop-n-preserved
loop-n-preserved c = λ cut moved.
    (let tagged = c.args.tagged.now in
    let pieces = c.args.pieces.now in
    let n = c.loop-n.n in
    let d : Edge × ℕ = (record { lo = origin_point; hi = origin_point }, 0) in
    let before : List Edge = dedup same_edge (segments_in (take n pieces)) in
    let first : Edge → Edge = first_with cut (segments_in tagged) in
    elim c.if-not-is_again.branch [
      | then-not-is_again+in_ok-push w ↦ (let new : c.is_again.result ≡ false = w.if-not-is_again.true in
          let more : before ++ (get_or pieces n d).0 ∷ [] ≡ dedup same_edge (segments_in (take (n + 1) pieces)) =
          edges_more pieces n d true before (before ++ (get_or pieces n d).0 ∷ []) c.loop-n-test.true refl (λ _. refl) (λ some. sym (ap not (sym (c.is_again.ensures.later some d) ∙ new))) (λ _. refl) (λ h. absurd (true≢false h)) in
          let is : first (get_or pieces n d).0 ≡ (get_or tagged (get_or pieces n d).1 d).0 = first_is cut tagged pieces moved (by_cmp pieces c.requires.in_order) n d c.loop-n-test.true (λ some. sym (c.is_again.ensures.later some d) ∙ new) d in
          let t = w.index-pieces-n.result in
          let u = w.index-tagged-pieces.result in
          let here : get_or pieces n t ≡ get_or pieces n d = get_or_default pieces n t d c.loop-n-test.true in
          let pushed : (get_or tagged (get_or pieces n t).1 u).0 ≡ first (get_or pieces n d).0 = ap (λ (p : Edge × ℕ). (get_or tagged p.1 u).0) here ∙ (ap (λ (q : Edge × ℕ). q.0) (get_or_default tagged (get_or pieces n d).1 u d (c.requires.in_range n d c.loop-n-test.true)) ∙ sym is) in
          ap (λ (v : Vec Edge Global). v.items) w.sources-is ∙ (w.in_ok-push.ensures.items ∙ (ap (λ xs. xs ++ (get_or tagged (get_or pieces n t).1 u).0 ∷ []) (c.loop-n.invariant cut moved) ∙ (ap (λ s. map first before ++ s ∷ []) pushed ∙ (sym (map-append first before ((get_or pieces n d).0 ∷ [])) ∙ ap (map first) more)))))
      | else-not-is_again w ↦ (let again : c.is_again.result ≡ true = w.if-not-is_again.false in
          let same : before ≡ dedup same_edge (segments_in (take (n + 1) pieces)) =
          edges_more pieces n d false before before c.loop-n-test.true refl (λ none. absurd (both_ways _ (c.is_again.ensures.first none) again)) (λ some. sym (ap not (sym (c.is_again.ensures.later some d) ∙ again))) (λ h. absurd (true≢false (sym h))) (λ _. refl) in
          ap (λ (v : Vec Edge Global). v.items) w.sources-is ∙ (c.loop-n.invariant cut moved ∙ ap (map first) same))
    ])

pub returns : goal.returns
returns c = λ cut moved.
    (let pieces = c.args.pieces.now in
    c.shrink_to_fit.ensures.items ∙ (c.loop-n.invariant cut moved ∙ ap (map (first_with cut (segments_in c.args.tagged.now))) (ap (λ ts. dedup same_edge (segments_in ts)) (take_all c.loop-n.n pieces c.loop-n-test.false) ∙ edges_left pieces (edges_in_order pieces (by_edge_first pieces (by_cmp pieces c.requires.in_order))))))
