use Rattle.std.proofs.Common.{◌∙◌, ◌++◌, [], ◌∷◌, List, ℕ, ap, sym, arith}
use Rattle.std.proofs.lemmas.List.FromFn.{map-range_with_len_more}
use Rattle.loc_parts.proofs.parting.numbers_below.Goals as goal

pub loop-n-preserved : goal.loop-n-preserved
loop-n-preserved c = c.in_ok-push.ensures.items ∙ (ap (λ (xs : List ℕ). xs ++ c.loop-n.n ∷ []) c.loop-n.invariant ∙ sym (map-range_with_len_more (λ n. n) 0 c.loop-n.n c.loop-n.n (omega arith)))

pub loop-n-init : goal.loop-n-init
loop-n-init c = c.in_ok-made.ensures.items
