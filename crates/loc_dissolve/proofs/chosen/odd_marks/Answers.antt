use Rattle.std.proofs.Common.{ℕ, ◌∷◌, ◌++◌, [], true, sym, ◌∙◌, ap, List, arith}
use Rattle.std.proofs.lemmas.List.FromFn.{map-range_with_len_more}
use Rattle.loc_spec_plane.specs.declared.Mark.{Mark}
use Rattle.loc_dissolve.proofs.chosen.odd_marks.Goals as goal

pub loop-edge-preserved : goal.loop-edge-preserved
loop-edge-preserved c =
    let k = c.loop-edge.edge in
    c.in_ok-push.ensures.items ∙ (ap (λ (l : List (ℕ × Mark)). l ++ (k, record { feature = 0; odd = true }) ∷ []) c.loop-edge.invariant ∙ sym (map-range_with_len_more (λ k. (k, record { feature = 0; odd = true })) 0 k k (omega arith)))
