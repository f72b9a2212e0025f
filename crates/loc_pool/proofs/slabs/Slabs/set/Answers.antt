use Rattle.std.proofs.Common.{◌≡◌, ◌/◌, ◌%◌, ◌∷◌, ◌++◌, suc, length, set, sym, ap, subst, ◌∙◌, arith, take, drop}
use Rattle.std.proofs.lemmas.List.{set_split, length-set}
use Rattle.loc_pool.specs.{declared.node.Slab.Slab, Cells.addresses, Cells.nodes_of, Cells.IsFull}
use Rattle.loc_pool.proofs.Cells.{addresses-cut, full-at, full-cut, nodes_of-cut, in-slab, of-slab, slab-within, slab-here, exchanged}
use Rattle.loc_pool.proofs.slabs.Slabs.set.Goals as goal

pub index-requires : goal.index-requires
index-requires c =
    let seen = ap length c.self.view_is in
    slab-within c.self.inside.heap.cells _ c.args.index _ c.self.invariant.0 c.self.invariant.1 c.self.inside.blocks.ok.0 (omega (arith, seen, c.requires))

pub give-requires : goal.give-requires
give-requires c =
    let seen = ap length c.self.view_is in
    slab-here c.self.inside.heap.cells _ c.args.index _ _ c.self.invariant.0 c.self.invariant.1 c.self.inside.blocks.ok.0 (omega (arith, seen, c.requires)) c.index.ensures

pub index_mut-requires : goal.index_mut-requires
index_mut-requires c =
    let seen = ap length c.self.view_is in
    slab-within c.self.inside.heap.cells _ c.args.index _ c.self.invariant.0 c.self.invariant.1 c.self.inside.blocks.ok.0 (omega (arith, seen, c.requires))

pub invariant_of-self : goal.invariant_of-self
invariant_of-self c =
    let cs = c.self.inside.heap.cells in let i = c.args.index / 1024 in let a = c.take.result in let seen = ap length c.self.view_is in
    let within = slab-within cs _ c.args.index _ c.self.invariant.0 c.self.invariant.1 c.self.inside.blocks.ok.0 (omega (arith, seen, c.requires)) in
    let cut : c.take.new.self.cells ≡ take i cs ++ (a, c.put.new.self) ∷ drop (suc i) cs = exchanged cs _ _ i _ _ c.give.ensures.value c.give.ensures.cells c.take.ensures in
    let was : c.deref_mut.result.now ≡ c.give.result.value = c.deref_mut.ensures.value ∙ c.into_box-block.ensures in (
      ap addresses cut ∙ addresses-cut cs i a c.put.new.self ∙ ap (λ bs. take i bs ++ a ∷ drop (suc i) bs) c.self.invariant.0
          ∙ sym (set_split c.self.inside.blocks.items i a (let long = c.self.inside.blocks.ok.0 in omega (arith, long, within))),
      subst IsFull (sym cut) (full-cut cs i _ c.self.invariant.1 (ap length c.put.ensures ∙ length-set _ _ _ ∙ ap (λ (s : Slab). length s.nodes) was ∙ full-at cs i _ c.self.invariant.1 c.give.ensures.value)),
    )

pub returns : goal.returns
returns c =
    let cs = c.self.inside.heap.cells in let i = c.args.index / 1024 in let a = c.take.result in
    let cut : c.take.new.self.cells ≡ take i cs ++ (a, c.put.new.self) ∷ drop (suc i) cs = exchanged cs _ _ i _ _ c.give.ensures.value c.give.ensures.cells c.take.ensures in
    let was : c.deref_mut.result.now ≡ c.give.result.value = c.deref_mut.ensures.value ∙ c.into_box-block.ensures in
    ap nodes_of cut
    ∙ nodes_of-cut cs i (c.args.index % 1024) c.args.index _ _ c.args.node c.self.invariant.1 c.give.ensures.value (in-slab c.args.index) (of-slab c.args.index)
    (c.put.ensures ∙ ap (λ (s : Slab). set s.nodes (c.args.index % 1024) c.args.node) was)
    ∙ ap (λ xs. set xs c.args.index c.args.node) c.self.view_is
