use Rattle.std.proofs.Common.{◌≡◌, ◌+◌, ◌<◌, [], ◌∷◌, ◌++◌, List, ℕ, length, take, map, sym, ◌∙◌, ap, arith}
use Rattle.std.proofs.lemmas.List.{map_push, take_all, take_more}
use Rattle.std.proofs.lemmas.Option.{get_or_from_slice_get}
use Rattle.loc_edges.specs.Tagged.{marks_of}
use Rattle.loc_edges.proofs.marks.mark_rows.Goals as goal

pub loop-n-preserved : goal.loop-n-preserved
loop-n-preserved c =
    let features : List (List ℕ) = c.args.features.now in
    let n = c.loop-n.n in
    let row : List ℕ = c.row.result.now in
    let fits : c.loop-n.n < length c.args.features.now = omega (arith, c.loop-n-test.true, c.len-n-end.ensures) in
    let more : take (n + 1) features ≡ take n features ++ row ∷ [] = take_more features n row fits ∙ ap (λ r. take n features ++ r ∷ []) (get_or_from_slice_get features n row row c.row.ensures) in
    c.in_ok-push.ensures
    ∙ (ap (λ ms. c.loop-n.rows ++ ms ∷ []) (c.deref.ensures.value ∙ c.in_ok-count_edge.ensures)
    ∙ (ap (λ rows. rows ++ marks_of row ∷ []) c.loop-n.invariant
    ∙ (sym (map_push marks_of (take n features) row) ∙ ap (map marks_of) (sym more))))

pub returns : goal.returns
returns c = c.loop-n.invariant ∙ ap (map marks_of) (take_all c.loop-n.n c.args.features.now (omega (arith, c.loop-n-test.false, c.len-n-end.ensures)))
