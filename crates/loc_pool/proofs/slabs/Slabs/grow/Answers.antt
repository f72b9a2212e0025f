use Rattle.std.proofs.Common.{◌≡◌, ◌∷◌, [], ◌++◌, length, sym, ap, subst, ◌∙◌, arith, cond, is_ok}
use Rattle.loc_pool.specs.{declared.node.Slab.Slab, Cells.addresses, Cells.nodes_of, Cells.IsFull}
use Rattle.loc_pool.proofs.Cells.{length-addresses, addresses-append, full-append, nodes_of-append, at-end}
use Rattle.loc_pool.proofs.slabs.Slabs.grow.Goals as goal

pub invariant_of-self-2 : goal.invariant_of-self-2
invariant_of-self-2 c =
    let cs = c.self.inside.heap.cells in let a = c.take-at.result in
    let cells = length-addresses cs in let listed = ap length c.self.invariant.0 in
    let end = c.take-at.ensures ∙ at-end cs _ _ (omega (arith, cells, listed, c.len-index.ensures, c.reserve.ensures.len, c.self.inside.blocks.ok.0)) in
    let pushed : c.push.new.self.items ≡ c.self.inside.blocks.items ++ a ∷ [] =
    c.push.ensures.items ∙ ap (λ r. cond (is_ok r) (c.reserve.new.self.items ++ a ∷ []) c.reserve.new.self.items) c.unwrap.ensures ∙ ap (λ xs. xs ++ a ∷ []) c.reserve.ensures.items in (
      ap addresses end ∙ addresses-append cs a _ ∙ ap (λ xs. xs ++ a ∷ []) c.self.invariant.0 ∙ sym pushed,
      subst IsFull (sym end) (full-append cs _ c.self.invariant.1 (ap (λ (s : Slab). length s.nodes) c.in_ok-block.ensures.ok ∙ c.new.ensures)),
    )

pub returns-clause-more : goal.returns-clause-more
returns-clause-more c =
    let cs = c.self.inside.heap.cells in
    let cells = length-addresses cs in let listed = ap length c.self.invariant.0 in
    let end = c.take-at.ensures ∙ at-end cs _ _ (omega (arith, cells, listed, c.len-index.ensures, c.reserve.ensures.len, c.self.inside.blocks.ok.0)) in (
      c.in_ok-block.block.value.nodes,
      ap (λ (s : Slab). length s.nodes) c.in_ok-block.ensures.ok ∙ c.new.ensures,
      ap nodes_of end ∙ nodes_of-append cs _ ∙ ap (λ xs. xs ++ c.in_ok-block.block.value.nodes) c.self.view_is,
    )
