use Rattle.std.proofs.Common.{length, sym, ap, ◌∙◌, arith}
use Rattle.std.specs.Prelude.{slice_get}
use Rattle.loc_pool.proofs.Cells.{in-slab, of-slab, node-here, slab-within, slab-here}
use Rattle.loc_pool.proofs.slabs.Slabs.get.Goals as goal

pub index-requires : goal.index-requires
index-requires c =
    let seen = ap length c.self.view_is in
    slab-within c.self.inside.heap.cells _ c.args.index _ c.self.invariant.0 c.self.invariant.1 c.self.inside.blocks.ok.0 (omega (arith, seen, c.requires))

pub get-requires : goal.get-requires
get-requires c =
    let seen = ap length c.self.view_is in
    slab-here c.self.inside.heap.cells _ c.args.index _ _ c.self.invariant.0 c.self.invariant.1 c.self.inside.blocks.ok.0 (omega (arith, seen, c.requires)) c.index.ensures

pub returns : goal.returns
returns c =
    ap (λ xs. slice_get xs c.args.index) (sym c.self.view_is)
    ∙ node-here c.self.inside.heap.cells _ _ c.args.index _ c.self.invariant.1 c.get.ensures (in-slab c.args.index) (of-slab c.args.index) ∙ c.node.ensures
